-- The report after one more item; what follows of a list from its report.
use Rattle.std.proofs.Common.{◌≡◌, ◌<◌, ◌≤◌, ◌+◌, ◌-◌, ◌^◌, ◌++◌, ◌∷◌, [], ◌∙◌, subst, ℕ, zero, suc, true, false, List, map, min, take, length, refl}
use Rattle.std.proofs.Common.{sym, ap, arith, Option, Some, None, Result, Ok, Err}
use Rattle.std.specs.Prelude.{is_ok, IsTrue, nat_lt}
use Rattle.std.specs.List.{list_all, flat_map, filter_map}
use Rattle.std.specs.Result.{result_err}
use Rattle.std.proofs.lemmas.Bool.{false≢true, le-ltb, lt-ltb, ltb-true, ltb-false}
use Rattle.std.proofs.lemmas.List.{take-append-le, take_all, length-append, length-map, length-take, map-append}
use Rattle.std.proofs.lemmas.List.Elements.{filter_map-append}
use Rattle.mach_base.specs.Fault.{Fault}
use Rattle.mach_audit.specs.Reported.{FaultAt, fault_reported, faults_each, faults_from, faults_of_items, faults_of, ReportsFirstFaults, ReportsOf, HasMet}
use Rattle.mach_audit.specs.declared.report.ItemFault.{ItemFault}
use Rattle.mach_audit.specs.declared.report.PartReport.{PartReport}
use Rattle.mach_audit.specs.declared.report.ItemList.{ItemList}
use Rattle.mach_audit.specs.declared.tally.Tally.{Tally}

-- ---- the first items

-- the first n with one more item, if they were fewer
pub take_one_more : {X : Type 0} (n : ℕ) (xs : List X) (x : X) → length xs < n → take n (xs ++ x ∷ []) ≡ take n xs ++ x ∷ []
take_one_more n xs x less =
    take_all n (xs ++ x ∷ []) (omega (arith, length-append xs (x ∷ []), less)) ∙ ap (λ front. front ++ x ∷ []) (sym (take_all n xs (omega (arith, less))))

-- there are at most as many faults as items
pub few_faults : (items : List (Option FaultAt)) → length (faults_of items) ≤ length items
few_faults [] = omega arith
few_faults (None ∷ items) = omega (arith, few_faults items)
few_faults (Some f ∷ items) = omega (arith, few_faults items)

-- ---- a part that reports one more fault

module _ {A : Type 0} (faults : List FaultAt) (found : ItemFault) (p q : PartReport A) (before : ReportsFirstFaults faults p)
    (count : q.faults ≡ p.faults + 1) where
  counted_more : q.faults ≡ length (faults ++ fault_reported found ∷ [])
  counted_more = omega (arith, count, before.count, length-append faults (fault_reported found ∷ []))

  taken : length p.reported.items ≡ min 10 (length faults)
  taken = omega (arith, length-map p.reported.items fault_reported, ap length before.reported, length-take 10 faults)

  -- it keeps the fault if it has fewer than ten
  pub kept_fault : length p.reported.items < 10 → q.reported.items ≡ p.reported.items ++ found ∷ [] → ReportsFirstFaults (faults ++ fault_reported found ∷ []) q
  kept_fault some push = record {
    reported = ap (map fault_reported) push ∙ map-append fault_reported p.reported.items (found ∷ [])
        ∙ ap (λ xs. xs ++ fault_reported found ∷ []) before.reported ∙ sym (take_one_more 10 faults (fault_reported found) (omega (arith, some, taken)));
    count = counted_more;
  }

  -- it counts the fault if it has ten
  pub counted_fault : 10 ≤ length p.reported.items → q.reported.items ≡ p.reported.items → ReportsFirstFaults (faults ++ fault_reported found ∷ []) q
  counted_fault full same = record {
    reported = ap (map fault_reported) same ∙ before.reported ∙ sym (take-append-le 10 faults (fault_reported found ∷ []) (omega (arith, full, taken)));
    count = counted_more;
  }

-- ---- a count that takes one more item

-- if some of the limit is left, the items so far are within it
pub within : {A : Type 0} (limit : ℕ) (items : List (Option FaultAt)) (t : Tally A) → HasMet limit items t → 1 ≤ t.left → length items < limit
within limit items t met some = omega (arith, met.left, some)

-- one more fault can be counted
pub countable : {A : Type 0} (limit : ℕ) (items : List (Option FaultAt)) (t : Tally A) → HasMet limit items t → 1 ≤ t.left
    → length (faults_of (take limit items)) + 1 < 2 ^ 64
countable limit items t met some =
    let less = within limit items t met some in
    let all = take_all limit items (omega (arith, less)) in
    rw all (omega (arith, few_faults items, less, met.small))

-- the faults with one more item
pub faults_one_more : (limit : ℕ) (items : List (Option FaultAt)) (item : Option FaultAt) → length items < limit
    → faults_of (take limit (items ++ item ∷ [])) ≡ faults_of (take limit items) ++ faults_of (item ∷ [])
faults_one_more limit items item less =
    ap faults_of (take_one_more limit items item less) ∙ filter_map-append (λ i. i) (take limit items) (item ∷ [])

pub not_cut : (limit : ℕ) (items : List (Option FaultAt)) (item : Option FaultAt) → length items < limit
    → nat_lt limit (length items) ≡ nat_lt limit (length (items ++ item ∷ []))
not_cut limit items item less =
    le-ltb limit (length items) (omega (arith, less))
    ∙ sym (le-ltb limit (length (items ++ item ∷ [])) (omega (arith, less, length-append items (item ∷ []))))

pub met_one_more : {A : Type 0} (limit : ℕ) (items : List (Option FaultAt)) (item : Option FaultAt) (t : Tally A) (p : PartReport A) → HasMet limit items t
    → 1 ≤ t.left → ReportsFirstFaults (faults_of (take limit items) ++ faults_of (item ∷ [])) p → p.cut ≡ t.part.cut
    → HasMet limit (items ++ item ∷ []) (record { part = p; left = t.left - 1 })
met_one_more limit items item t p met some reports same =
    let less = within limit items t met some in record {
      small = met.small;
      left = omega (arith, met.left, length-append items (item ∷ []), some);
      reports = record {
        faults = subst (λ (fs : List FaultAt). ReportsFirstFaults fs p) (sym (faults_one_more limit items item less)) reports;
        cut = same ∙ met.reports.cut ∙ not_cut limit items item less;
      };
    }

-- past the limit nothing more is reported
pub met_rest : {A : Type 0} (limit : ℕ) (items rest : List (Option FaultAt)) (t : Tally A) → HasMet limit items t → IsTrue t.part.cut
    → HasMet limit (items ++ rest) t
met_rest limit items rest t met cut =
    let long : limit < length items = ltb-true limit (length items) (sym met.reports.cut ∙ cut) in record {
      small = met.small;
      left = omega (arith, met.left, length-append items rest, long);
      reports = record {
        faults = subst (λ (xs : List (Option FaultAt)). ReportsFirstFaults (faults_of xs) t.part) (sym (take-append-le limit items rest (omega (arith, long))))
            met.reports.faults;
        cut = met.reports.cut ∙ lt-ltb limit (length items) long ∙ sym (lt-ltb limit (length (items ++ rest)) (omega (arith, long, length-append items rest)));
      };
    }

-- ---- the faults without their places

abbrev pub plain : Option FaultAt → Option Fault
plain None = None
plain (Some f) = Some f.1

abbrev pub occur : List (Option Fault) → List Fault
occur items = filter_map (λ item. item) items

pub plain_from : {X : Type 0} (list : ItemList) (n : ℕ) (items : List (Result X Fault)) → map plain (faults_from list n items) ≡ faults_of_items items
plain_from list n [] = refl
plain_from list n (Ok x ∷ items) = ap (λ rest. None ∷ rest) (plain_from list (n + 1) items)
plain_from list n (Err f ∷ items) = ap (λ rest. Some f ∷ rest) (plain_from list (n + 1) items)

pub plain_each : {X Y : Type 0} (part : ℕ → X → List (Option FaultAt)) (list : X → List (Result Y Fault))
    → ((n : ℕ) (x : X) → map plain (part n x) ≡ faults_of_items (list x)) → (n : ℕ) (xs : List X)
    → map plain (faults_each part n xs) ≡ faults_of_items (flat_map list xs)
plain_each part list same n [] = refl
plain_each part list same n (x ∷ xs) =
    map-append plain (part n x) (faults_each part (n + 1) xs)
    ∙ ap (λ front. front ++ map plain (faults_each part (n + 1) xs)) (same n x)
    ∙ ap (λ rest. faults_of_items (list x) ++ rest) (plain_each part list same (n + 1) xs)
    ∙ sym (map-append result_err (list x) (flat_map list xs))

count_plain : (n : ℕ) (faults : List (Option FaultAt)) → length (faults_of (take n faults)) ≡ length (occur (take n (map plain faults)))
count_plain zero faults = refl
count_plain (suc n) [] = refl
count_plain (suc n) (None ∷ faults) = count_plain n faults
count_plain (suc n) (Some f ∷ faults) = omega (arith, count_plain n faults)

-- ---- what follows from a report

-- if all items can be read, none of the first ones is a fault
pub none_reported : {X : Type 0} (n : ℕ) (items : List (Result X Fault)) → list_all is_ok items ≡ true → length (occur (take n (faults_of_items items))) ≡ 0
none_reported zero items all = refl
none_reported (suc n) [] all = refl
none_reported (suc n) (Ok x ∷ items) all = none_reported n items all
none_reported (suc n) (Err f ∷ items) all = absurd (false≢true all)

-- if no fault is reported, each can be read
all_there : {X : Type 0} (items : List (Result X Fault)) → length (occur (faults_of_items items)) ≡ 0 → list_all is_ok items ≡ true
all_there [] none = refl
all_there (Ok x ∷ items) none = all_there items none
all_there (Err f ∷ items) none = absurd (omega (arith, none))

module _ {A X : Type 0} (limit : ℕ) (items : List (Result X Fault)) (faults : List (Option FaultAt)) (same : map plain faults
    ≡ faults_of_items items) (p : PartReport A)
    (reports : ReportsOf limit faults p) where
  counted : p.faults ≡ length (occur (take limit (faults_of_items items)))
  counted = reports.faults.count ∙ count_plain limit faults ∙ ap (λ (xs : List (Option Fault)). length (occur (take limit xs))) same

  pub cut_is : p.cut ≡ nat_lt limit (length items)
  cut_is = reports.cut ∙ ap (λ (n : ℕ). nat_lt limit n) (sym (length-map faults plain) ∙ ap length same ∙ length-map items result_err)

  pub reported_sound : p.faults ≡ 0 → p.cut ≡ false → IsTrue (list_all is_ok items)
  reported_sound none whole =
      let short = ltb-false limit (length items) (sym cut_is ∙ whole) in
      let all = take_all limit (faults_of_items items) (omega (arith, short, length-map items result_err)) in
      all_there items (sym (ap (λ (xs : List (Option Fault)). length (occur xs)) all) ∙ sym counted ∙ none)

  pub reported_faulty : 0 < p.faults → IsTrue (list_all is_ok items) → ⊥
  reported_faulty some all = omega (arith, some, counted, none_reported limit items all)

  pub reported_long : IsTrue p.cut → limit < length items
  reported_long cut = ltb-true limit (length items) (sym cut_is ∙ cut)

  pub reported_short : p.cut ≡ false → limit < length items → ⊥
  reported_short whole long = omega (arith, long, ltb-false limit (length items) (sym cut_is ∙ whole))
