-- Pages without a fault, counted.
use Rattle.std.proofs.Common.{◌≡◌, ◌∷◌, ◌-◌, ◌∙◌, [], ℕ, List, Bool, true, false, length, refl, sym, ap, arith}
use Rattle.std.specs.Prelude.{◌&&◌, if◌then◌else◌}
use Rattle.std.specs.List.{list_all}
use Rattle.mach_signature.specs.declared.fault.CodeFault.{CodeFault}
use Rattle.machsign.specs.Blocks.{is_of_page, sound_pages}

-- Of some faults those that were visited are of pages; `sound` pages are left without one of them.
pub record Counts (pages : ℕ) (faults rest : List CodeFault) (sound : ℕ) : Type 0 where
  pub of_pages : list_all is_of_page faults ≡ list_all is_of_page rest
  pub count : pages - length faults ≡ sound - length rest

and_second : (a b : Bool) → a ≡ true → (a && b) ≡ b
and_second true b e = refl
and_second false b e = absurd (cc)

and_first : (a b : Bool) → a ≡ false → (a && b) ≡ false
and_first true b e = absurd (cc)
and_first false b e = refl

first_of_two : (b : Bool) (n : ℕ) → b ≡ true → n ≡ (if b then n else 0)
first_of_two true n e = refl
first_of_two false n e = absurd (cc)

second_of_two : (b : Bool) (n : ℕ) → b ≡ false → 0 ≡ (if b then n else 0)
second_of_two true n e = absurd (cc)
second_of_two false n e = refl

pub none_counted : (pages : ℕ) (faults : List CodeFault) → Counts pages faults faults pages
none_counted pages faults = record { of_pages = refl; count = refl }

module _ (pages : ℕ) (faults before : List CodeFault) (sound : ℕ) (c : Counts pages faults before sound) where
  pub one_counted : (rest : List CodeFault) (fault : CodeFault) (judged : Bool) (next : ℕ) → before ≡ fault ∷ rest → judged ≡ is_of_page fault
      → judged ≡ true → next ≡ sound - 1 → Counts pages faults rest next
  one_counted rest fault judged next is same page less = record {
    of_pages = c.of_pages ∙ ap (list_all is_of_page) is ∙ and_second (is_of_page fault) (list_all is_of_page rest) (sym same ∙ page);
    count = omega (arith, c.count, less, ap length is);
  }

  pub all_counted : before ≡ [] → sound ≡ sound_pages pages faults
  all_counted is =
      let all : sound ≡ pages - length faults = omega (arith, c.count, ap length is) in
      all ∙ first_of_two (list_all is_of_page faults) (pages - length faults) (c.of_pages ∙ ap (list_all is_of_page) is)

  pub none_judged : (rest : List CodeFault) (fault : CodeFault) (judged : Bool) → before ≡ fault ∷ rest → judged ≡ is_of_page fault → judged ≡ false
      → 0 ≡ sound_pages pages faults
  none_judged rest fault judged is same other =
      second_of_two (list_all is_of_page faults) (pages - length faults)
      (c.of_pages ∙ ap (list_all is_of_page) is ∙ and_first (is_of_page fault) (list_all is_of_page rest) (sym same ∙ other))
