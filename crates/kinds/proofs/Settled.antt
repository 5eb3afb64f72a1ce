-- A ring under a window of 63 refuses none of the calls that linewatch makes. Assumes nothing.
use Rattle.std.proofs.Common.{◌≡◌, ℕ, ◌+◌, ◌-◌, ◌/◌, ◌%◌, ◌^◌, ◌<◌, ◌≤◌, Bool, not, leb, zero, suc, false, List, [], ◌∷◌, length, take, drop, filter, min, max, Ok, is_ok, true, Result, refl, ap, ◌∙◌, length-append, arith}
use Rattle.std.specs.Prelude.{nat_lt}
use Rattle.std.proofs.lemmas.Bool.{le-ltb}
use Rattle.std.proofs.lemmas.Bool.Decides.{nat_tests}
use Rattle.std.proofs.lemmas.List.{length-map, length-take}
use Rattle.std.proofs.lemmas.List.Elements.{All-append, All-cons, All-nil}
use Rattle.std.proofs.lemmas.List.Sums.{length-filter, count_by-le-length}
use Rattle.tally.specs.declared.rows.Row.{Row}
use Rattle.keeper.specs.Figures.{Figures}
use Rattle.keeper.specs.declared.refusal.Refusal.{Refusal}
use Rattle.keeper.specs.Listing.{firsts, listed, entry_of}
use Rattle.keeper.specs.Refusals.{unfit}
use Rattle.ring.specs.Rings.{exactly, HoldsWindow, key_in, keys_from, window_of, listing_of}
use Rattle.likeness.specs.Agree.{same_kind}
use Rattle.likeness.specs.declared.address.AddressKey.{AddressKey}
use Rattle.watch.specs.Counters.{Takes}
use Rattle.latest.specs.WithTables.{InTables, list_answer_in, TakenIn}
use Rattle.latest.proofs.InTables.{accepts}
use Rattle.kinds.proofs.Addresses.{read_ascii}
use Rattle.kinds.specs.Kinds.{IsAscii, IsRightFor, IsSet, key_of, kinds_in, threshold_of, most_keys}
use Rattle.watch.specs.Report.{most_lines}

filter_fewer : {X : Type 0} (test : X → Bool) (xs : List X) → length (filter test xs) ≤ length xs
filter_fewer test xs = omega (arith, length-filter test xs, count_by-le-length test xs)

-- A list names no more keys than there are.
firsts_fewer : {K : Type 0} (alike : K → K → Bool) (xs : List K) → length (firsts alike xs) ≤ length xs
firsts_fewer alike [] = omega arith
firsts_fewer alike (x ∷ xs) = omega (arith, filter_fewer (λ other. not (alike x other)) (firsts alike xs), firsts_fewer alike xs)

listed_fewer : {K : Type 0} (alike : K → K → Bool) (bracket : K → ℕ × ℕ) (threshold : ℕ) (xs : List K) → length (listed alike bracket threshold xs) ≤ length xs
listed_fewer {K} alike bracket threshold xs =
    omega (arith, length-map {A = K} (filter (λ k. leb threshold (bracket k).1) (firsts alike xs)) (λ k. entry_of k (bracket k)), filter_fewer (λ k. leb threshold (bracket k).1) (firsts alike xs), firsts_fewer alike xs)

-- A window in rows has no more keys than its size.
keys_fewer : {K : Type 0} (rows : List (Row K)) (rounds from n : ℕ) → length (keys_from rows rounds from n) ≤ n
keys_fewer rows rounds from zero = omega arith
keys_fewer {K} rows rounds from (suc n) =
    omega (arith, length-append (key_in rows (from % rounds)) (keys_from rows rounds (from + 1) n), length-map {A = Row K} (take 1 (drop (from % rounds) rows)) (λ row. row.key), length-take 1 (drop (from % rounds) rows), keys_fewer rows rounds (from + 1) n)

kinds_fewer : (n : ℕ) (s : Figures) (rows : List (Row AddressKey)) → length (kinds_in n (window_of s rows)) ≤ s.size
kinds_fewer n s rows =
    let alike : AddressKey → AddressKey → Bool = λ x y. same_kind x.bytes y.bytes in
    let keys = window_of s rows in
    omega (arith, listed_fewer alike (exactly alike keys) (threshold_of n) keys, keys_fewer rows (2 ^ s.span) (s.puts - s.size) s.size)

-- The threshold is an eighth of the size, rounded up.
pub rounded_up : (n : ℕ) → max (n / 8 + min 1 (n % 8)) 1 ≡ threshold_of n
rounded_up n = let up : n / 8 + min 1 (n % 8) ≡ (n + 7) / 8 = omega arith in ap (λ m. max m 1) up

module _ (kinds : InTables AddressKey Figures) where
  -- 2^30 keys are more than a million, so none is refused.
  pub takes : (key : AddressKey) (r : Result (Unit {0}) Refusal) (after : InTables AddressKey Figures) → TakenIn (λ s. s) HoldsWindow kinds key r after
      → Takes key_of (λ k. k.window.keeper.puts) IsRightFor kinds key after
  takes key r after taken =
      let accepted : kinds.window.keeper.puts < most_lines → is_ok r ≡ true = λ few. accepts kinds.window.keeper r taken.answer (omega (arith, few)) in
      record {
        counts = λ few. ap (λ f. f.puts) (taken.tells (accepted few));
        holds_more = λ few text values read right. record {
          goal = taken.goal ∙ right.goal;
          holds = taken.takes (accepted few) [] values right.holds;
          ascii = All-append IsAscii values (key ∷ []) right.ascii (All-cons IsAscii key [] (read_ascii text key read) (All-nil IsAscii));
        };
      }

  module _ (set : IsSet kinds) where
    -- The threshold is high enough.
    fit : unfit kinds.window.keeper (threshold_of kinds.window.keeper.size) ≡ false
    fit = rw set.accuracy (grind (arith, nat_tests))

    -- A list is refused for nothing, if it has a place for each key.
    pub lists : (r : Result ℕ Refusal) (threshold room : ℕ) → threshold ≡ threshold_of kinds.window.keeper.size → kinds.window.keeper.size ≤ kinds.window.goal → room ≡ most_keys
        → r ≡ list_answer_in kinds.window.keeper threshold room (length (listing_of (λ x y. same_kind x.bytes y.bytes) (window_of kinds.window.keeper kinds.rows) threshold))
        → r ≡ Ok (length (kinds_in kinds.window.keeper.size (window_of kinds.window.keeper kinds.rows)))
    lists r threshold room e within whole answer =
        let named = length (kinds_in kinds.window.keeper.size (window_of kinds.window.keeper kinds.rows)) in
        let holds : nat_lt most_keys named ≡ false = le-ltb most_keys named (omega (arith, kinds_fewer kinds.window.keeper.size kinds.window.keeper kinds.rows, within, set.goal)) in
        answer ∙ rw e (rw whole (rw fit (rw holds refl)))
