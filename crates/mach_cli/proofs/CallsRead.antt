-- Arguments that are read one after the other.
use Rattle.std.proofs.Common.{◌≡◌, ◌+◌, ◌∙◌, ℕ, List, ◌∷◌, Bool, true, false, Option, Some, None, drop, refl, sym, ap, subst, length, get_or, string_bytes}
use Rattle.std.specs.Prelude.{◌<◌, ⊤}
use Rattle.std.proofs.lemmas.List.{drop_more}
use Rattle.mach_cli.specs.Calls.{ParsedCall, Wanted, a_text, IsCputype, TakesOwn, TakesDashed, TakesJoined, TakesValue, AddsWord, AddsWords}
use Rattle.mach_cli.specs.Calls.{AreUntaken, Requests}
use Rattle.mach_cli.specs.declared.call.Asked.{Asked}
use Rattle.mach_cli.specs.Calls.{joined_in, kind_at, of_arch, of_number, TakesWord}
use Rattle.mach_cli.specs.CallWords.{word_text}
use Rattle.mach_records.specs.CpuNames.{ArchRow}
use Rattle.mach_cli.specs.declared.call.Kind.{Kind}
use Rattle.mach_cli.specs.declared.call.Kind.TheVariants as kinds
use Rattle.mach_cli.specs.declared.color.Color.{Color}
use Rattle.mach_cli.specs.declared.options.Format.{Format}
use Rattle.mach_cli.specs.declared.options.Options.{Options}
use Rattle.mach_cli.specs.declared.call.Untaken.{Untaken}
use Rattle.mach_cli.specs.declared.call.Untaken.TheVariants.{Misuse, Memory}
use Rattle.mach_cli.specs.declared.call.Valued.{Valued}
use Rattle.mach_cli.specs.declared.call.Valued.TheVariants as valued
use Rattle.mach_cli.specs.declared.word.Word.{Word}
use Rattle.mach_cli.specs.declared.word.Word.TheVariants.{Text, Bytes}

-- what arguments that are left request, by where they are: after an option, after `--`, or elsewhere
abbrev pub GoesOn : {O : Type 0} → (O → List ℕ → O × Bool) → Options → Option Valued → (is_plain : Bool) → (old : ParsedCall O) → List Word
    → (wanted : Wanted O) → Type 0
GoesOn taken options (Some option) is_plain old words wanted = Requests taken options (Some option) old words wanted
GoesOn taken options None true old words wanted = AddsWords options old words wanted
GoesOn taken options None false old words wanted = Requests taken options None old words wanted

-- ---- an argument extends a call in one way only

some_or : {T : Type 0} → T → Option T → T
some_or x None = x
some_or x (Some y) = y

some-one : {T : Type 0} (x y : T) → Some x ≡ Some y → x ≡ y
unfolding some_or
some-one x y same = ap (λ o. some_or x o) same

pub number-one : (word : List ℕ) (m n : ℕ) → IsCputype word m → IsCputype word n → m ≡ n
number-one word m n a b = some-one m n (sym a ∙ b)

pub takes-one : {O : Type 0} (option : Valued) (word : List ℕ) (old x y : ParsedCall O) → TakesValue option word old x → TakesValue option word old y → x ≡ y
takes-one valued.Limit word old x y a b = a.2 ∙ ap (λ (n : ℕ). record old { limit = Some n }) (a.1.2 ∙ sym b.1.2) ∙ sym b.2
takes-one valued.Arch word old x y a b = a.2 ∙ ap (λ (row : ArchRow). record old { cpu = of_arch row }) (some-one a.0 b.0 (sym a.1 ∙ b.1)) ∙ sym b.2
takes-one valued.Cputype word old x y a b =
    a.2 ∙ ap (λ (n : ℕ). record old { cpu = of_number n }) (number-one word a.0 b.0 a.1 b.1) ∙ sym b.2
takes-one valued.Address word old x y a b = some-one x y (sym a ∙ b)
takes-one valued.LoadAddress word old x y a b = a.2 ∙ ap (λ (n : ℕ). record old { load_address = Some n }) (some-one a.0 b.0 (sym a.1 ∙ b.1)) ∙ sym b.2
takes-one valued.Color word old x y a b = a.2 ∙ ap (λ (color : Color). record old { color = color }) (some-one a.0 b.0 (sym a.1 ∙ b.1)) ∙ sym b.2
takes-one valued.Names word old x y a b = a ∙ sym b

pub adds-one : {O : Type 0} (options : Options) (word : Word) (old x y : ParsedCall O) → AddsWord options word old x → AddsWord options word old y → x ≡ y
adds-one options (Text text) old x y a b = a ∙ sym b
adds-one options (Bytes number bytes) old x y a b = a.1 ∙ sym b.1

pub word-one : {O : Type 0} (option : Valued) (word : Word) (old x y : ParsedCall O) → TakesWord option word old x → TakesWord option word old y → x ≡ y
word-one option (Text text) old x y a b = takes-one option (string_bytes text) old x y a b
word-one option (Bytes number bytes) old x y a b = absurd a

pub own-one : {O : Type 0} (taken : O → List ℕ → O × Bool) (word : List ℕ) (old x y : ParsedCall O) → TakesOwn taken word old x → TakesOwn taken word old y
    → x ≡ y
own-one {O} taken word old x y a b =
    a.2 ∙ ap (λ (own : O × Bool). record old { own = own.0 }) (sym a.1 ∙ b.1) ∙ sym b.2

joined-one : {O : Type 0} (taken : O → List ℕ → O × Bool) (word : List ℕ) (joined : Option (Valued × List ℕ)) (old x y : ParsedCall O)
    → TakesJoined taken word joined old x → TakesJoined taken word joined old y → x ≡ y
joined-one taken word (Some joined) old x y a b = takes-one joined.0 joined.1 old x y a b
joined-one taken word None old x y a b = own-one taken word old x y a b

pub dashed-one : {O : Type 0} (taken : O → List ℕ → O × Bool) (options : Options) (word : List ℕ) (old x y : ParsedCall O)
    → TakesDashed taken options word old x → TakesDashed taken options word old y → x ≡ y
dashed-one taken options word old x y a b = joined-one taken word (joined_in options word) old x y a b

-- ---- and so do the arguments after it

IsThere : Option Valued → Type 0
IsThere None = ⊥
IsThere (Some option) = ⊤

some_none : (option : Valued) → Some option ≡ None → ⊥
unfolding IsThere
some_none option same = subst IsThere same cc

abbrev IsOther : Kind → Type 0
IsOther kinds.Plain = ⊥
IsOther (kinds.Asks asked) = ⊥
IsOther kinds.Nul = ⊥
IsOther kinds.Lossy = ⊥
IsOther (kinds.Form format) = ⊥
IsOther (kinds.Valued option) = ⊥
IsOther kinds.Other = ⊤
IsOther kinds.Own = ⊥

other-plain : kinds.Other ≡ kinds.Plain → ⊥
other-plain same = subst IsOther same cc

other-asks : (asked : Asked) → kinds.Other ≡ kinds.Asks asked → ⊥
other-asks asked same = subst IsOther same cc

other-nul : kinds.Other ≡ kinds.Nul → ⊥
other-nul same = subst IsOther same cc

other-lossy : kinds.Other ≡ kinds.Lossy → ⊥
other-lossy same = subst IsOther same cc

other-form : (format : Format) → kinds.Other ≡ kinds.Form format → ⊥
other-form format same = subst IsOther same cc

other-valued : (option : Valued) → kinds.Other ≡ kinds.Valued option → ⊥
other-valued option same = subst IsOther same cc

other-own : kinds.Other ≡ kinds.Own → ⊥
other-own same = subst IsOther same cc

IsFalse : Bool → Type 0
IsFalse false = ⊤
IsFalse true = ⊥

-- after `--` there is no option
pub option_open : (options : Options) (text : List ℕ) (option : Valued) (is_plain : Bool) (before : Option Valued)
    → kind_at is_plain options text ≡ kinds.Valued option → is_plain ≡ true → before ≡ None
unfolding IsFalse
option_open options text option true before kind same = absurd (other-valued option kind)
option_open options text option false before kind same = absurd (subst IsFalse same cc)

-- two conditions hold for the same things
abbrev pub Same : {C : Type 0} → (C → Type 0) → (C → Type 0) → Type 0
Same {C} P Q = ((new : C) → P new → Q new) × ((new : C) → Q new → P new)

pub same_over : {C : Type 0} (P Q R : C → Type 0) → Same P Q → Same Q R → Same P R
same_over P Q R one two = (λ new p. two.0 new (one.0 new p), λ new r. one.1 new (two.1 new r))

-- a step with only one result can be replaced by that result
pub next_one : {C D : Type 0} (Makes : C → Type 0) (next : C) → Makes next → ((x : C) → Makes x → x ≡ next) → (Then : C → D → Type 0)
    → Same (λ new. (x : C) × Makes x × Then x new) (Then next)
next_one {C} Makes next made only Then = (
  λ new all. subst (λ (x : C). Then x new) (only all.0 all.1) all.2,
  λ new then. (next, made, then),
)

module _ {O : Type 0} (taken : O → List ℕ → O × Bool) (options : Options) (word : Word) (words : List Word) (old : ParsedCall O) where
  pub valued_step : (option : Valued) (is_plain : Bool) (next : ParsedCall O) → TakesWord option word old next
      → Same (GoesOn taken options (Some option) is_plain old (word ∷ words)) (GoesOn taken options None false next words)
  valued_step option is_plain next takes =
      next_one (TakesWord option word old) next takes (λ x t. word-one option word old x next t takes) (λ x new. Requests taken options None x words new)

  pub other_step : (is_plain : Bool) (next : ParsedCall O) → kind_at is_plain options (word_text word) ≡ kinds.Other → AddsWord options word old next
      → Same (GoesOn taken options None is_plain old (word ∷ words)) (GoesOn taken options None is_plain next words)
  other_step true next kind adds =
      next_one (AddsWord options word old) next adds (λ x a. adds-one options word old x next a adds) (λ x new. AddsWords options x words new)
  other_step false next kind adds =
      rw kind
      (next_one (AddsWord options word old) next adds (λ x a. adds-one options word old x next a adds) (λ x new. Requests taken options None x words new))

  pub own_step : (is_plain : Bool) (next : ParsedCall O) → kind_at is_plain options (word_text word) ≡ kinds.Own
      → TakesDashed taken options (word_text word) old next
      → Same (GoesOn taken options None is_plain old (word ∷ words)) (GoesOn taken options None is_plain next words)
  own_step true next kind takes = absurd (other-own kind)
  own_step false next kind takes =
      rw kind (next_one (TakesDashed taken options (word_text word) old) next takes (λ x t. dashed-one taken options (word_text word) old x next t takes)
      (λ x new. Requests taken options None x words new))

  pub plain_step : (is_plain : Bool) → kind_at is_plain options (word_text word) ≡ kinds.Plain
      → Same (GoesOn taken options None is_plain old (word ∷ words)) (GoesOn taken options None true old words)
  plain_step true kind = absurd (other-plain kind)
  plain_step false kind = rw kind (λ new a. a, λ new a. a)

  pub nul_step : (is_plain : Bool) → kind_at is_plain options (word_text word) ≡ kinds.Nul
      → Same (GoesOn taken options None is_plain old (word ∷ words)) (GoesOn taken options None is_plain (record old { ends_with_nul = true }) words)
  nul_step true kind = absurd (other-nul kind)
  nul_step false kind = rw kind (λ new a. a, λ new a. a)

  pub lossy_step : (is_plain : Bool) → kind_at is_plain options (word_text word) ≡ kinds.Lossy
      → Same (GoesOn taken options None is_plain old (word ∷ words)) (GoesOn taken options None is_plain (record old { is_lossy = true }) words)
  lossy_step true kind = absurd (other-lossy kind)
  lossy_step false kind = rw kind (λ new a. a, λ new a. a)

  pub form_step : (format : Format) (is_plain : Bool) → kind_at is_plain options (word_text word) ≡ kinds.Form format
      → Same (GoesOn taken options None is_plain old (word ∷ words)) (GoesOn taken options None is_plain (record old { format = format }) words)
  form_step format true kind = absurd (other-form format kind)
  form_step format false kind = rw kind (λ new a. a, λ new a. a)

  pub option_step : (option : Valued) (is_plain : Bool) → kind_at is_plain options (word_text word) ≡ kinds.Valued option
      → Same (GoesOn taken options None is_plain old (word ∷ words)) (GoesOn taken options (Some option) is_plain old words)
  option_step option true kind = absurd (other-valued option kind)
  option_step option false kind = rw kind (λ new a. a, λ new a. a)

  -- an argument that asks for a text is the last that counts
  pub asks_text : (asked : Asked) (is_plain : Bool) → kind_at is_plain options (word_text word) ≡ kinds.Asks asked
      → GoesOn taken options None is_plain old (word ∷ words) (a_text asked)
  asks_text asked true kind = absurd (other-asks asked kind)
  asks_text asked false kind = rw kind refl

  -- an argument is taken as a value or as an own option, or added
  pub valued_made : (option : Valued) (is_plain : Bool) (new : Wanted O) → GoesOn taken options (Some option) is_plain old (word ∷ words) new
      → (x : ParsedCall O) × TakesWord option word old x
  valued_made option is_plain new selects = (selects.0, selects.1)

  pub other_made : (is_plain : Bool) → kind_at is_plain options (word_text word) ≡ kinds.Other → (new : Wanted O)
      → GoesOn taken options None is_plain old (word ∷ words) new → (x : ParsedCall O) × AddsWord options word old x
  other_made true kind new selects = (selects.0, selects.1)
  other_made false kind new selects = let all = rw kind at selects in (all.0, all.1)

  pub own_made : (is_plain : Bool) → kind_at is_plain options (word_text word) ≡ kinds.Own → (new : Wanted O)
      → GoesOn taken options None is_plain old (word ∷ words) new → (x : ParsedCall O) × TakesDashed taken options (word_text word) old x
  own_made true kind new selects = absurd (other-own kind)
  own_made false kind new selects = let all = rw kind at selects in (all.0, all.1)

-- if one argument isn't taken, the arguments request nothing
pub untaken_all : {C D : Type 0} (Makes : C → Type 0) (All : D → Type 0) (e : Untaken) → ((new : D) → All new → (x : C) × Makes x)
    → AreUntaken Makes e → AreUntaken All e
untaken_all Makes All (Misuse misuse) made none = λ new all. let one = made new all in none one.0 one.1
untaken_all Makes All Memory made none = cc

-- ---- the arguments that are left

pub words_more : (words : List Word) (i : ℕ) (word : Word) → i < length words → word ≡ get_or words i word → drop i words ≡ word ∷ drop (i + 1) words
words_more words i word low is = drop_more words i word low ∙ ap (λ (w : Word). w ∷ drop (i + 1) words) (sym is)

pub not_plain : (is_plain : Bool) (before : Option Valued) (option : Valued) → (is_plain ≡ true → before ≡ None) → before ≡ Some option → is_plain ≡ false
not_plain false before option plain some = refl
not_plain true before option plain some = absurd (some_none option (sym some ∙ plain refl))

-- the kind of an argument, by the text that was read
pub kind_of-word : (is_plain : Bool) (options : Options) (word : Word) (text : List ℕ) (seen kind : Kind) → text ≡ word_text word
    → seen ≡ kind_at is_plain options text → seen ≡ kind → kind_at is_plain options (word_text word) ≡ kind
kind_of-word is_plain options word text seen kind is read same = ap (λ (some : List ℕ). kind_at is_plain options some) (sym is) ∙ sym read ∙ same
