use Rattle.std.proofs.Common.{[], ap, subst, inl}
use Rattle.mach_base.specs.Text.{texts}
use Rattle.mach_dyld.specs.TrieRange.{TrieRange}
use Rattle.goblin_mach.proofs.ImageFacts.{moved}
use Rattle.goblin_mach_c.specs.ExportWalk.{AreWritten, GoesAlong, HasWalkedTrie, IsNextName, IsNodeOf, IsNumbered}
use Rattle.goblin_mach_c.specs.Opened.{FaultIn, lossy_mode}
use Rattle.goblin_mach_c.proofs.OpenedImage.{refusal_of}
use Rattle.goblin_mach_c.proofs.WalkedImages.{ends_with, goes_on, next_name_there, no_end, none_written, rows_there, stays}
use Rattle.goblin_mach_c.proofs.exports.gmr_exports.Goals as goal

pub returns-then-walk-ne0-clause-written : goal.returns-then-walk-ne0-clause-written
returns-then-walk-ne0-clause-written c = (
  [],
  none_written c.args.bytes.now c.args.image.now.base c.args.image.now.offset c.args.walk.now c.args.name.now c.args.stack.now c.nothing.result
      c.args.out.now c.args.names.now c.nothing.ensures,
  stays c.args.bytes.now c.args.image.now.offset c.args.walk.now c.args.name.now c.args.stack.now,
  λ end. absurd (no_end c.nothing.result c.nothing.ensures end),
)

pub returns-in-Ok-clause-written : goal.returns-in-Ok-clause-written
returns-in-Ok-clause-written c =
    let wrote = c.go_along.ensures.written in
    let new = c.go_along.new in
    let along =
    moved (λ t l. GoesAlong t l c.args.walk.now new.walk c.args.name.now new.name c.args.stack.now new.stack wrote.0 new.batch.end) _ _ _ _
    c.trie_of-trie.ensures (ap texts c.as_slice.ensures.value) wrote.2 in (
      wrote.0,
      rows_there c.args.bytes.now c.args.image.now.offset c.in-Ok.found c.in-Ok.ensures.opened c.args.image.now.base
          c.args.walk.now c.args.name.now c.args.stack.now
          wrote.0 _ _ _ _ _ _
          (moved (λ (t : TrieRange) l. AreWritten t.bytes c.args.image.now.base (IsNumbered l)
          (IsNodeOf t l (HasWalkedTrie t l c.args.walk.now c.args.name.now c.args.stack.now)) wrote.0 new.batch.count new.batch.names_len
          c.args.out.now new.out c.args.names.now new.names)
          _ _ _ _ c.trie_of-trie.ensures (ap texts c.as_slice.ensures.value) wrote.1),
      goes_on c.args.bytes.now c.args.image.now.offset c.in-Ok.found c.in-Ok.ensures.opened _ _ _ _ _ _ _ _ along,
      ends_with c.args.bytes.now c.args.image.now.offset c.in-Ok.found c.in-Ok.ensures.opened _ _ _ _ _ _ _ _ along,
    )

pub returns-in-Ok-clause-name : goal.returns-in-Ok-clause-name
returns-in-Ok-clause-name c = λ three.
    let long = c.go_along.ensures.name three in
    let new = c.go_along.new in (
      long.0,
      next_name_there c.args.bytes.now c.args.image.now.offset c.in-Ok.found c.in-Ok.ensures.opened new.walk new.batch.needed
          (subst (λ (t : TrieRange). IsNextName t new.walk.cursor new.batch.needed) c.trie_of-trie.ensures long.1),
    )

pub returns-in-Err-clause-written : goal.returns-in-Err-clause-written
returns-in-Err-clause-written c = (
  [],
  none_written c.args.bytes.now c.args.image.now.base c.args.image.now.offset c.args.walk.now c.args.name.now c.args.stack.now c.nothing-in-Err.result
      c.args.out.now c.args.names.now c.nothing-in-Err.ensures,
  stays c.args.bytes.now c.args.image.now.offset c.args.walk.now c.args.name.now c.args.stack.now,
  λ end. absurd (no_end c.nothing-in-Err.result c.nothing-in-Err.ensures end),
)

pub returns-in-Err-clause-refused : goal.returns-in-Err-clause-refused
returns-in-Err-clause-refused c = λ _.
    inl (refusal_of (FaultIn (lossy_mode c.args.image.now.is_lossy) c.args.bytes.now c.args.image.now.offset) c.in-Err.why c.refuse.result
    c.refuse.ensures.code c.in-Err.ensures.refused)
