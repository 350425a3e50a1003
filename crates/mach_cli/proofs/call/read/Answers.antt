use Rattle.std.proofs.Common.{◌≡◌, ◌+◌, false, drop, refl}
use Rattle.std.proofs.lemmas.List.{drop_all}
use Rattle.mach_cli.specs.CallWords.{word_text}
use Rattle.mach_cli.specs.Calls.{call_view, kind_at, AddsWord, TakesDashed, TakesWord}
use Rattle.mach_cli.specs.declared.call.Kind.{Kind}
use Rattle.mach_cli.specs.declared.call.Kind.TheVariants as kinds
use Rattle.mach_cli.proofs.CallsRead.{kind_of-word, option_open, same_over}
use Rattle.mach_cli.proofs.CallsRead.{asks_text, form_step, lossy_step, nul_step, option_step, other_made, other_step, own_made, own_step, plain_step}
use Rattle.mach_cli.proofs.CallsRead.{untaken_all, valued_made, valued_step, words_more, not_plain}
use Rattle.mach_cli.proofs.call.read.Goals as goal
use Rattle.mach_cli.proofs.call.read.Goals.{in-Plain, in-Nul, in-Lossy, in-Form, in-Valued, in-Other+in_default-add, in-Own+in_default-take_dashed}

pub words-preserved-in-Some : goal.words-preserved-in-Some
words-preserved-in-Some g c =
    let l = c.words in
    let ws = c.args.words.now in
    let w = c.word-item.result in
    let plain : l.is_plain ≡ false = not_plain l.is_plain l.before c.in-Some.option l.invariant.1 c.in-Some.is in
    let before = rw (c.in-Some.is, words_more ws l.word-index w c.words-test.true c.word-item.is) at l.invariant.0 in
    let step = valued_step g.O.OwnOptions.taken c.args.options w (drop (l.word-index + 1) ws) (call_view l.call) c.in-Some.option l.is_plain
    (call_view c.take_word.new.self) c.in_default-take_word.ensures.taken in
    (rw plain (same_over _ _ _ before step), λ _. refl)

pub returns-in-Err-clause-untaken : goal.returns-in-Err-clause-untaken
returns-in-Err-clause-untaken g c =
    let l = c.words in
    let ws = c.args.words.now in
    let w = c.word-item.result in
    let before = rw (c.in-Some.is, words_more ws l.word-index w c.words-test.true c.word-item.is) at l.invariant.0 in
    untaken_all (TakesWord c.in-Some.option w (call_view l.call)) _ _
    (λ new all. valued_made g.O.OwnOptions.taken c.args.options w (drop (l.word-index + 1) ws) (call_view l.call) c.in-Some.option l.is_plain new
    (before.0 new all))
    c.in-Err.ensures.untaken

pub returns-in-Err-add-clause-untaken : goal.returns-in-Err-add-clause-untaken
returns-in-Err-add-clause-untaken g c =
    let l = c.words in
    let ws = c.args.words.now in
    let w = c.word-item.result in
    let before = rw (c.in_default.is, words_more ws l.word-index w c.words-test.true c.word-item.is) at l.invariant.0 in
    let kind = kind_of-word l.is_plain c.args.options w c.as_str.result.now c.kind_at.result kinds.Other c.as_str.ensures c.kind_at.ensures c.in-Other.is in
    untaken_all (AddsWord c.args.options w (call_view l.call)) _ _
    (λ new all. other_made g.O.OwnOptions.taken c.args.options w (drop (l.word-index + 1) ws) (call_view l.call) l.is_plain kind new (before.0 new all))
    c.in-Err-add.ensures.untaken

pub returns-in-Err-take_dashed-clause-untaken : goal.returns-in-Err-take_dashed-clause-untaken
returns-in-Err-take_dashed-clause-untaken g c =
    let l = c.words in
    let ws = c.args.words.now in
    let w = c.word-item.result in
    let before = rw (c.in_default.is, words_more ws l.word-index w c.words-test.true c.word-item.is) at l.invariant.0 in
    let kind = kind_of-word l.is_plain c.args.options w c.as_str.result.now c.kind_at.result kinds.Own c.as_str.ensures c.kind_at.ensures c.in-Own.is in
    untaken_all (TakesDashed g.O.OwnOptions.taken c.args.options (word_text w) (call_view l.call)) _ _
    (λ new all. own_made g.O.OwnOptions.taken c.args.options w (drop (l.word-index + 1) ws) (call_view l.call) l.is_plain kind new (before.0 new all))
    c.in-Err-take_dashed.ensures.untaken

pub returns-in-Asks-clause-request : goal.returns-in-Asks-clause-request
returns-in-Asks-clause-request g c =
    let l = c.words in
    let ws = c.args.words.now in
    let w = c.word-item.result in
    let asked = c.in-Asks.asked in
    let before = rw (c.in_default.is, words_more ws l.word-index w c.words-test.true c.word-item.is) at l.invariant.0 in
    let kind =
    kind_of-word l.is_plain c.args.options w c.as_str.result.now c.kind_at.result (kinds.Asks asked) c.as_str.ensures c.kind_at.ensures c.in-Asks.is in
    before.1 _
    (asks_text g.O.OwnOptions.taken c.args.options w (drop (l.word-index + 1) ws) (call_view l.call) asked l.is_plain kind)

pub words-preserved : goal.words-preserved
words-preserved g c =
    let l = c.words in
    let o = c.args.options in
    let ws = c.args.words.now in
    let w = c.word-item.result in
    let rest = drop (l.word-index + 1) ws in
    let view = call_view l.call in
    let before = rw (c.in_default.is, words_more ws l.word-index w c.words-test.true c.word-item.is) at l.invariant.0 in
    let kind : (k : Kind) → c.kind_at.result ≡ k → kind_at l.is_plain o (word_text w) ≡ k =
    λ k is. kind_of-word l.is_plain o w c.as_str.result.now c.kind_at.result k c.as_str.ensures c.kind_at.ensures is in
    elim c.match-kind_at.branch [
      | in-Plain p ↦
          rw (p.call-is, p.before-is, p.is_plain-is, c.in_default.is)
          (same_over _ _ _ before (plain_step g.O.OwnOptions.taken o w rest view l.is_plain (kind kinds.Plain p.in-Plain.is)), λ _. refl)
      | in-Nul p ↦
          rw (p.call-is, p.before-is, p.is_plain-is, c.in_default.is)
          (same_over _ _ _ before (nul_step g.O.OwnOptions.taken o w rest view l.is_plain (kind kinds.Nul p.in-Nul.is)), λ _. refl)
      | in-Lossy p ↦
          rw (p.call-is, p.before-is, p.is_plain-is, c.in_default.is)
          (same_over _ _ _ before (lossy_step g.O.OwnOptions.taken o w rest view l.is_plain (kind kinds.Lossy p.in-Lossy.is)), λ _. refl)
      | in-Form p ↦
          let format = p.in-Form.format in
          rw (p.call-is, p.before-is, p.is_plain-is, c.in_default.is)
          (same_over _ _ _ before (form_step g.O.OwnOptions.taken o w rest view format l.is_plain (kind (kinds.Form format) p.in-Form.is)), λ _. refl)
      | in-Valued p ↦
          let option = p.in-Valued.option in
          let is = kind (kinds.Valued option) p.in-Valued.is in
          rw (p.call-is, p.before-is, p.is_plain-is) (
            same_over _ _ _ before (option_step g.O.OwnOptions.taken o w rest view option l.is_plain is),
            λ same. option_open o (word_text w) option l.is_plain _ is same,
          )
      | in-Other+in_default-add p ↦
          rw (p.call-is, p.before-is, p.is_plain-is, c.in_default.is) (
            same_over _ _ _ before (other_step g.O.OwnOptions.taken o w rest view l.is_plain _ (kind kinds.Other p.in-Other.is) p.in_default-add.ensures.added),
            λ _. refl,
          )
      | in-Own+in_default-take_dashed p ↦
          rw (p.call-is, p.before-is, p.is_plain-is, c.in_default.is) (
            same_over _ _ _ before
                (own_step g.O.OwnOptions.taken o w rest view l.is_plain _ (kind kinds.Own p.in-Own.is) p.in_default-take_dashed.ensures.taken),
            λ _. refl,
          )
    ]

pub returns-in-Some-before-clause-untaken : goal.returns-in-Some-before-clause-untaken
returns-in-Some-before-clause-untaken g c =
    let l = c.words in
    λ new all. rw (c.in-Some-before.is, drop_all _ _ c.words-test.false) at (l.invariant.0.0 new all)
