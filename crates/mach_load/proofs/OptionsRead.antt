-- The options of commands, text by text.
use Rattle.std.proofs.Common.{◌≡◌, ℕ, zero, suc, ◌+◌, ◌-◌, ◌<◌, List, [], ◌∷◌, length, map, Result, Ok, Err, refl, sym, ap, ◌∙◌}
use Rattle.std.proofs.Common.{arith, add-one, cond, nat_le, inl, inr}
use Rattle.std.specs.Str.{is_utf8}
use Rattle.mach_base.specs.Fault.{Fault, bad_offset, bad_input}
use Rattle.mach_base.specs.Items.{items_from}
use Rattle.mach_base.specs.Text.{text_at, run_at}
use Rattle.mach_base.proofs.Binds.{chosen, same_ok}
use Rattle.mach_load.specs.declared.load_command.LoadCommand.{LoadCommand}
use Rattle.mach_load.specs.CommandLists.{with_number, followed_by}
use Rattle.mach_load.specs.LinkerOptions.{OptionTexts, option_at, option_place, texts_of_options, numbered_options, options_of}
use Rattle.mach_load.proofs.ListsRead.{lists_from}

-- a text that was read is the run there
pub text_is_run : (bytes : List ℕ) (s : ℕ) (text : List ℕ) → text_at bytes s ≡ Ok text → text ≡ run_at bytes s
unfolding text_at
text_is_run bytes s text e =
    elim (chosen (nat_le (length bytes) s) (Err (bad_offset s)) (cond (is_utf8 (run_at bytes s)) (Ok (run_at bytes s)) (Err (bad_input (length bytes - s))))
    (Ok text) e) [
      | inl outside ↦ absurd (let wrong = outside.1 in cc)
      | inr inside ↦
          elim (chosen (is_utf8 (run_at bytes s)) (Ok (run_at bytes s)) (Err (bad_input (length bytes - s))) (Ok text) inside.1) [
            | inl there ↦ sym (same_ok there.1)
            | inr no_text ↦ absurd (let wrong = no_text.1 in cc)
          ]
    ]

-- items by the numbers after the first
pub items_after : {A : Type 0} (item : ℕ → A) (first count : ℕ) → items_from item (first + 1) count ≡ items_from (λ k. item (suc k)) first count
items_after item first zero = refl
items_after item first (suc count) =
    ap (λ (n : ℕ). item n ∷ items_from item (first + 1 + 1) count) (add-one first)
    ∙ ap (λ items. item (suc first) ∷ items) (items_after item (first + 1) count)

-- the remaining texts after one was read
abbrev pub texts_after : OptionTexts → List ℕ → OptionTexts
texts_after t text = record { bytes = t.bytes; place = t.place + (length text + 1); count = t.count - 1 }

texts_first : (bytes : List ℕ) (place count : ℕ)
    → texts_of_options (record { bytes = bytes; place = place; count = suc count })
    ≡ option_at bytes place ∷ texts_of_options (record { bytes = bytes; place = place + (length (run_at bytes place) + 1); count = count })
texts_first bytes place count =
    ap (λ (items : List (Result (List ℕ) Fault)). option_at bytes place ∷ items)
    (items_after (λ k. option_at bytes (option_place bytes place k)) 0 count)

module _ (bytes : List ℕ) (cs : List LoadCommand) where
  -- what is left, if these texts of command `number` remain, and then the commands from `next` on
  abbrev pub options_from : (number next : ℕ) → OptionTexts → List (Result (ℕ × List ℕ) Fault)
  options_from number next t = followed_by (numbered_options number t) (lists_from (options_of bytes) cs next)

  one_text : (number next : ℕ) (t : OptionTexts) → 0 < t.count
      → options_from number next t
      ≡ followed_by (with_number number (option_at t.bytes t.place)
      ∷ numbered_options number (texts_after t (run_at t.bytes t.place))) (lists_from (options_of bytes) cs next)
  one_text number next t some =
      let more : t.count ≡ suc (t.count - 1) = omega (arith, some) in
      ap (λ (n : ℕ). options_from number next (record { bytes = t.bytes; place = t.place; count = n })) more
      ∙ ap (λ (items : List (Result (List ℕ) Fault)). followed_by (map (with_number number) items) (lists_from (options_of bytes) cs next))
      (texts_first t.bytes t.place (t.count - 1))

  pub option_first : (number next : ℕ) (t : OptionTexts) (text : List ℕ) → 0 < t.count → option_at t.bytes t.place ≡ Ok text
      → text ≡ run_at t.bytes t.place → options_from number next t ≡ Ok (number, text) ∷ options_from number next (texts_after t text)
  option_first number next t text some is run =
      one_text number next t some
      ∙ (ap (λ (r : Result (List ℕ) Fault). followed_by (with_number number r ∷ numbered_options number (texts_after t (run_at t.bytes t.place)))
      (lists_from (options_of bytes) cs next)) is
      ∙ ap (λ (r : List ℕ). Ok (number, text) ∷ options_from number next (texts_after t r)) (sym run))

  pub option_fault : (number next : ℕ) (t : OptionTexts) (f : Fault) → 0 < t.count → option_at t.bytes t.place ≡ Err f
      → options_from number next t ≡ Err f ∷ []
  option_fault number next t f some is =
      one_text number next t some
      ∙ ap (λ (r : Result (List ℕ) Fault). followed_by (with_number number r ∷ numbered_options number (texts_after t (run_at t.bytes t.place)))
      (lists_from (options_of bytes) cs next)) is
