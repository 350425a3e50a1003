-- The values of a group, step by step.
use Rattle.std.proofs.Common.{◌≡◌, ◌∙◌, ℕ, zero, suc, List, Bool, true, false, Option, Some, None, Result, Ok, Err, refl, sym, ap, subst}
use Rattle.std.specs.Option.{is_some, option_map}
use Rattle.std.specs.Str.{bytes_eq}
use Rattle.mach_base.specs.Answer.{◌>>=◌}
use Rattle.mach_base.specs.Fault.{Fault, malformed}
use Rattle.mach_signature.specs.EntitlementReads.{end_in, entries_at, entries_after, before_others, entitlement_front, rest_or, value_at, entitlement_by}
use Rattle.mach_signature.specs.EntitlementReads.{IsEntryFound}
use Rattle.mach_signature.specs.EntitlementSpans.{SpanView, Unread, plain_here, group_here, FrontView, group_ends, entry_begins}
use Rattle.mach_signature.specs.EntitlementValues.{Entitlement, group, Entitled, nothing, entry, same_groups, says_same, value_under}
use Rattle.mach_signature.specs.declared.entitlements.parts.Group.{Group}
use Rattle.mach_signature.specs.declared.entitlements.parts.Group.TheVariants.{Dictionary}

-- ---- results of two steps

pub record BothRead {A B : Type 0} (r : Result A Fault) (f : A → Result B Fault) (y : B) : Type 0 where
  pub first : A
  pub is_first : r ≡ Ok first
  pub is_second : f first ≡ Ok y

pub both_read : {A B : Type 0} (r : Result A Fault) (f : A → Result B Fault) (y : B) → r >>= f ≡ Ok y → BothRead r f y
both_read (Ok a) f y e = record { first = a; is_first = refl; is_second = e }
both_read (Err g) f y e = absurd (cc)

pub then_read : {A B : Type 0} (r : Result A Fault) (f : A → Result B Fault) (a : A) → r ≡ Ok a → r >>= f ≡ f a
then_read r f a e = rw e refl

pub then_refused : {A B : Type 0} (r : Result A Fault) (f : A → Result B Fault) (g : Fault) → r ≡ Err g → r >>= f ≡ Err g
then_refused r f g e = rw e refl

ok_is : {A : Type 0} (x y : A) → ◌≡◌ {A = Result A Fault} (Ok x) (Ok y) → x ≡ y
ok_is x y e = cc

-- ---- one step

pub entries_none : (n : ℕ) (g : Group) (s : SpanView) → n ≡ 0 → entries_at n g s ≡ Err malformed
unfolding entries_at
entries_none zero g s e = refl
entries_none (suc n) g s e = absurd (cc)

pub entries_step : (n less : ℕ) (g : Group) (s : SpanView) → n ≡ suc less → entries_at n g s ≡ entitlement_front g s >>= entries_after (entries_at less) g
unfolding entries_at
entries_step zero less g s e = absurd (cc)
entries_step (suc n) less g s e =
    let same : n ≡ less = cc in
    ap (λ (k : ℕ). entitlement_front g s >>= entries_after (entries_at k) g) same

-- ---- where a group ends

after_others : (key : List ℕ) (value : Entitlement) (r : Result (Entitled × SpanView) Fault) → end_in (r >>= before_others key value) ≡ end_in r
after_others key value (Ok x) = refl
after_others key value (Err f) = refl

after_value : (key : List ℕ) (rest : Option SpanView) (next : SpanView → Result (Entitled × SpanView) Fault) (r : Result (Entitlement × SpanView) Fault)
    → end_in (r >>= (λ v. next (rest_or rest v.1) >>= before_others key v.0)) ≡ end_in r >>= (λ e. end_in (next (rest_or rest e)))
after_value key rest next (Ok v) = after_others key v.0 (next (rest_or rest v.1))
after_value key rest next (Err f) = refl

after_group : (g : Group) (r : Result (Entitled × SpanView) Fault) → end_in (r >>= (λ x. Ok (group g x.0, x.1))) ≡ end_in r
after_group g (Ok x) = refl
after_group g (Err f) = refl

-- the end of a value that is a group is that of its values
pub value_ends : (n : ℕ) (g : Group) (s : SpanView) → end_in (value_at n (group_here g s)) ≡ end_in (entries_at n g s)
value_ends n g s = after_group g (entries_at n g s)

module _ (n less : ℕ) (g : Group) (s : SpanView) (more : n ≡ suc less) where
  pub end_none : n ≡ 0 → end_in (entries_at n g s) ≡ Err malformed
  end_none e = absurd (cc)

  pub end_unread : (f : Fault) → entitlement_front g s ≡ Err f → end_in (entries_at n g s) ≡ Err f
  end_unread f e = ap end_in (entries_step n less g s more ∙ then_refused (entitlement_front g s) (entries_after (entries_at less) g) f e)

  at_front : (f : FrontView) → entitlement_front g s ≡ Ok f → entries_at n g s ≡ entries_after (entries_at less) g f
  at_front f e = entries_step n less g s more ∙ then_read (entitlement_front g s) (entries_after (entries_at less) g) f e

  pub end_here : (rest : SpanView) → entitlement_front g s ≡ Ok (group_ends rest) → end_in (entries_at n g s) ≡ Ok rest
  end_here rest e = ap end_in (at_front (group_ends rest) e)

  pub end_later : (key : List ℕ) (value : Unread) (rest : Option SpanView) → entitlement_front g s ≡ Ok (entry_begins key value rest)
      → end_in (entries_at n g s) ≡ end_in (value_at less value) >>= (λ e. end_in (entries_at less g (rest_or rest e)))
  end_later key value rest e =
      ap end_in (at_front (entry_begins key value rest) e) ∙ after_value key rest (entries_at less g) (value_at less value)

-- ---- the parts of what was read

-- a value, and those after it
pub record EntryParts (less : ℕ) (g : Group) (key : List ℕ) (value : Unread) (rest : Option SpanView) (x : Entitled × SpanView) : Type 0 where
  pub first : Entitlement × SpanView
  pub is_first : value_at less value ≡ Ok first
  pub others : Entitled × SpanView
  pub are_others : entries_at less g (rest_or rest first.1) ≡ Ok others
  pub whole : x ≡ (entry key first.0 others.0, others.1)

parts_by : (less : ℕ) (g : Group) (key : List ℕ) (value : Unread) (rest : Option SpanView) (x : Entitled × SpanView)
    → entries_after (entries_at less) g (entry_begins key value rest) ≡ Ok x → EntryParts less g key value rest x
parts_by less g key value rest x e =
    let v = both_read (value_at less value) (λ v. entries_at less g (rest_or rest v.1) >>= before_others key v.0) x e in
    let r = both_read (entries_at less g (rest_or rest v.first.1)) (before_others key v.first.0) x v.is_second in record {
      first = v.first;
      is_first = v.is_first;
      others = r.first;
      are_others = r.is_first;
      whole = sym (ok_is _ _ r.is_second);
    }

module _ (n less : ℕ) (g : Group) (s : SpanView) (x : Entitled × SpanView) (more : n ≡ suc less) (is : entries_at n g s ≡ Ok x) where
  pub entry_parts : (key : List ℕ) (value : Unread) (rest : Option SpanView) → entitlement_front g s ≡ Ok (entry_begins key value rest)
      → EntryParts less g key value rest x
  entry_parts key value rest e = parts_by less g key value rest x (sym (at_front n less g s more (entry_begins key value rest) e) ∙ is)

  pub whole_end : (rest : SpanView) → entitlement_front g s ≡ Ok (group_ends rest) → x ≡ (nothing, rest)
  whole_end rest e = sym (ok_is _ _ (sym (at_front n less g s more (group_ends rest) e) ∙ is))

  pub readable_front : {A : Type 0} (f : Fault) → entitlement_front g s ≡ Err f → A
  readable_front f e =
      let no : ◌≡◌ {A = Result (Entitled × SpanView) Fault} (Err f) (Ok x) =
      sym (entries_step n less g s more ∙ then_refused (entitlement_front g s) (entries_after (entries_at less) g) f e) ∙ is in
      absurd (cc)

pub readable_steps : {A : Type 0} (n : ℕ) (g : Group) (s : SpanView) (x : Entitled × SpanView) → n ≡ 0 → entries_at n g s ≡ Ok x → A
readable_steps n g s x none is =
    let no : ◌≡◌ {A = Result (Entitled × SpanView) Fault} (Err malformed) (Ok x) = sym (entries_none n g s none) ∙ is in absurd (cc)

-- ---- more steps

value_up : (next more : Group → SpanView → Result (Entitled × SpanView) Fault)
    → ((g : Group) (s : SpanView) (x : Entitled × SpanView) → next g s ≡ Ok x → more g s ≡ Ok x)
    → (value : Unread) (v : Entitlement × SpanView) → entitlement_by next value ≡ Ok v → entitlement_by more value ≡ Ok v
value_up next more up (plain_here p) v e = e
value_up next more up (group_here g s) v e =
    let r = both_read (next g s) (λ r. Ok (group g r.0, r.1)) v e in
    then_read (more g s) (λ r. Ok (group g r.0, r.1)) r.first (up g s r.first r.is_first) ∙ r.is_second

front_up : (next more : Group → SpanView → Result (Entitled × SpanView) Fault)
    → ((g : Group) (s : SpanView) (x : Entitled × SpanView) → next g s ≡ Ok x → more g s ≡ Ok x)
    → (g : Group) (f : FrontView) (x : Entitled × SpanView) → entries_after next g f ≡ Ok x → entries_after more g f ≡ Ok x
front_up next more up g (group_ends rest) x e = e
front_up next more up g (entry_begins key value rest) x e =
    let v = both_read (entitlement_by next value) (λ v. next g (rest_or rest v.1) >>= before_others key v.0) x e in
    let r = both_read (next g (rest_or rest v.first.1)) (before_others key v.first.0) x v.is_second in
    then_read (entitlement_by more value) (λ v. more g (rest_or rest v.1) >>= before_others key v.0) v.first (value_up next more up value v.first v.is_first)
    ∙ (then_read (more g (rest_or rest v.first.1)) (before_others key v.first.0) r.first (up g (rest_or rest v.first.1) r.first r.is_first) ∙ r.is_second)

pub entries_more : (n : ℕ) (g : Group) (s : SpanView) (x : Entitled × SpanView) → entries_at n g s ≡ Ok x → entries_at (suc n) g s ≡ Ok x
entries_more zero g s x e = readable_steps zero g s x refl e
entries_more (suc n) g s x e =
    let f = both_read (entitlement_front g s) (entries_after (entries_at n) g) x (sym (entries_step (suc n) n g s refl) ∙ e) in
    entries_step (suc (suc n)) (suc n) g s refl
    ∙ (then_read (entitlement_front g s) (entries_after (entries_at (suc n)) g) f.first f.is_first
    ∙ front_up (entries_at n) (entries_at (suc n)) (λ h t y is. entries_more n h t y is) g f.first x f.is_second)

pub value_more : (n m : ℕ) (value : Unread) (v : Entitlement × SpanView) → m ≡ suc n → value_at n value ≡ Ok v → value_at m value ≡ Ok v
value_more n m value v is e =
    subst (λ (k : ℕ). value_at k value ≡ Ok v) (sym is) (value_up (entries_at n) (entries_at (suc n)) (λ g s x is. entries_more n g s x is) value v e)

pub found_more : (n m : ℕ) (found : Option Unread) (there : Option Entitlement) → m ≡ suc n → IsEntryFound n found there → IsEntryFound m found there
found_more n m None None is f = f
found_more n m None (Some v) is f = f
found_more n m (Some u) None is f = f
found_more n m (Some u) (Some v) is f = (f.0, value_more n m u (v, f.0) is f.1)

-- a key is found at the first entry, or after it
pub found_here : (less n : ℕ) (key k : List ℕ) (unread : Unread) (v : Entitlement × SpanView) (rest : Entitled) → n ≡ suc less
    → value_at less unread ≡ Ok v → bytes_eq k key ≡ true → IsEntryFound n (Some unread) (value_under key (entry k v.0 rest))
found_here less n key k unread v rest more is same = rw same (v.1, value_more less n unread v more is)

pub found_later : (less n : ℕ) (key k : List ℕ) (found : Option Unread) (value : Entitlement) (rest : Entitled) → n ≡ suc less
    → bytes_eq k key ≡ false → IsEntryFound less found (value_under key rest) → IsEntryFound n found (value_under key (entry k value rest))
found_later less n key k found value rest more other is = rw other (found_more less n found (value_under key rest) more is)

-- something was found exactly if a value is there
pub found_is_some : (n : ℕ) (found : Option Unread) (there : Option Entitlement) → IsEntryFound n found there → is_some found ≡ is_some there
found_is_some n None None f = refl
found_is_some n None (Some v) f = elim f [ ]
found_is_some n (Some u) None f = elim f [ ]
found_is_some n (Some u) (Some v) f = refl

pub some_of_map : {A B : Type 0} (f : A → B) (x : Option A) → is_some (option_map f x) ≡ is_some x
some_of_map f None = refl
some_of_map f (Some x) = refl

-- the answer of a comparison with what was found
pub found_same : (n : ℕ) (u : Unread) (there : Option Entitlement) (y : Entitlement) (answer : Bool) → IsEntryFound n (Some u) there
    → ((v : Entitlement × SpanView) → value_at n u ≡ Ok v → answer ≡ says_same (Some v.0) y) → answer ≡ says_same there y
found_same n u None y answer f same = elim f [ ]
found_same n u (Some v) y answer f same = same (v, f.0) f.1

-- what follows a value that was read, by its place
pub others_read : (less : ℕ) (g : Group) (s : SpanView) (end : SpanView) (others : Entitled × SpanView) → s ≡ end → entries_at less g end ≡ Ok others
    → entries_at less g s ≡ Ok others
others_read less g s end others same is = ap (λ (t : SpanView). entries_at less g t) same ∙ is

-- two dictionaries that can be read say the same if their values do
pub same_dictionaries : (n m : ℕ) (s t : SpanView) (answer : Bool) (x y : Entitlement × SpanView)
    → ((a b : Entitled × SpanView) → entries_at n Dictionary s ≡ Ok a → entries_at m Dictionary t ≡ Ok b → answer ≡ same_groups Dictionary a.0 b.0)
    → value_at n (group_here Dictionary s) ≡ Ok x → value_at m (group_here Dictionary t) ≡ Ok y → answer ≡ says_same (Some x.0) y.0
same_dictionaries n m s t answer x y same ex ey =
    let a = both_read (entries_at n Dictionary s) (λ r. Ok (group Dictionary r.0, r.1)) x ex in
    let b = both_read (entries_at m Dictionary t) (λ r. Ok (group Dictionary r.0, r.1)) y ey in
    let x_is : x ≡ (group Dictionary a.first.0, a.first.1) = sym (ok_is _ _ a.is_second) in
    let y_is : y ≡ (group Dictionary b.first.0, b.first.1) = sym (ok_is _ _ b.is_second) in
    rw (x_is, y_is) (same a.first b.first a.is_first b.is_first)
