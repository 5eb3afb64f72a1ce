-- A put or a slide keeps a window true to the latest keys. Assumes nothing.
use Rattle.std.proofs.Common.{◌≡◌, ℕ, ◌+◌, ◌-◌, ◌<◌, ◌≤◌, List, [], ◌∷◌, ◌++◌, length, take, drop, Ok, Err, sym, refl, ap, ◌∙◌, subst, append_assoc, arith}
use Rattle.std.proofs.lemmas.Bool.Decides.{nat_tests}
use Rattle.std.proofs.lemmas.List.{length-drop, length-take, length_push, take-append-drop}
use Rattle.std.proofs.Math.Nat.{min-eq_left}
use Rattle.std.proofs.Math.Seq.{take-append_seam, drop-append_seam}
use Rattle.tally.specs.declared.rows.Head.{Head}
use Rattle.tally.specs.declared.rows.Row.{Row}
use Rattle.keeper.specs.declared.lengths.Lengths.{Lengths}
use Rattle.keeper.specs.declared.refusal.Refusal.{Refusal}
use Rattle.keeper.specs.Figures.{Figures, grown, shrunk}
use Rattle.keeper.specs.Rules.{TrueTo}
use Rattle.keeper.specs.Tables.{lengths, needed}
use Rattle.windows.specs.declared.refusal.WindowRefusal.TheVariants.{Keeper}
use Rattle.windows.specs.Fixed.{Fixed}
use Rattle.windows.specs.Refusals.{fill_answer, slide_answer}
use Rattle.windows.specs.Windows.{PutWhileFilling, Slid}
use Rattle.latest.specs.declared.latest.State.{State}
use Rattle.latest.specs.declared.latest.State.TheVariants.{Filling, Sliding}
use Rattle.latest.specs.Latest.{latest, earlier, moved_on, HoldsLatest, Accepted, Rejected}
use Rattle.latest.specs.States.{fixed_of, IsSettled, Moved}

-- A list is two lists joined, at the place where the first ends.
seam : {K : Type 0} (m : ℕ) (xs front back : List K) → front ++ back ≡ xs → m ≡ length front → (take m xs ≡ front) × (drop m xs ≡ back)
seam m xs front back whole here =
    rw (sym whole) (rw here (take-append_seam front back, drop-append_seam front back))

-- A window that has not its size yet is refused as one that slides.
fills_as : (need lent : Lengths) (f : Figures) (goal : ℕ) → f.size < goal → fill_answer need lent f goal ≡ slide_answer need lent f
fills_as need lent f goal room = grind (arith, nat_tests)

module _ {P K : Type 0} (figures : P → Figures) (holds : P → List (Row K) → List Head → List K → List K → Type 0) (need : ℕ → ℕ → Lengths) (w : Fixed P) (rows rows' : List (Row K)) (heads heads' : List Head) (key : K) (w' : Fixed P) where
  module _ (before keys : List K) where
    -- True to a past and a window that are all the keys.
    resplit : (all past window : List K) → past ++ window ≡ all → length all - w'.goal ≡ length past → TrueTo figures holds w'.keeper rows' heads' (before ++ past) window → HoldsLatest figures holds w' rows' heads' before all
    resplit all past window whole here t =
        let split = seam (length all - w'.goal) all past window whole here in
        subst (λ ks. TrueTo figures holds w'.keeper rows' heads' (before ++ ks) (latest w'.goal all)) (sym split.0)
        (subst (λ ks. TrueTo figures holds w'.keeper rows' heads' (before ++ past) ks) (sym split.1) t)

    filled_takes : (figures w.keeper).size < w.goal → PutWhileFilling figures holds need w rows heads key (Ok tt) w' rows' heads' → HoldsLatest figures holds w rows heads before keys → HoldsLatest figures holds w' rows' heads' before (keys ++ key ∷ [])
    filled_takes room f t =
        let past = earlier w.goal keys in
        let window = latest w.goal keys in
        resplit (keys ++ key ∷ []) past (window ++ key ∷ [])
        (sym (append_assoc past window (key ∷ [])) ∙ ap (λ ks. ks ++ key ∷ []) (take-append-drop (length keys - w.goal) keys))
        (omega (arith, f.goal, t.size, length_push keys key, length-drop (length keys - w.goal) keys, length-take (length keys - w.goal) keys))
        (f.takes refl (before ++ past) window t)

    slid_takes : 1 ≤ w.goal → (figures w.keeper).size ≡ w.goal → Slid figures holds need w rows heads key (Ok tt) w' rows' heads' → HoldsLatest figures holds w rows heads before keys → HoldsLatest figures holds w' rows' heads' before (keys ++ key ∷ [])
    slid_takes some full s t = by (latest w.goal keys) refl
      where
        by : (window : List K) → latest w.goal keys ≡ window → HoldsLatest figures holds w' rows' heads' before (keys ++ key ∷ [])
        by [] e = absurd (omega (arith, t.size, ap length e))
        by (x ∷ xs) e =
            let past : List K = earlier w.goal keys in
            let whole : past ++ x ∷ xs ≡ keys = ap (λ ks. past ++ ks) (sym e) ∙ take-append-drop (length keys - w.goal) keys in
            resplit (keys ++ key ∷ []) (past ++ x ∷ []) (xs ++ key ∷ [])
            (append_assoc past (x ∷ []) (xs ++ key ∷ []) ∙ sym (append_assoc past (x ∷ xs) (key ∷ [])) ∙ ap (λ ks. ks ++ key ∷ []) whole)
            (omega (arith, s.goal, t.size, length_push keys key, length_push past x, length-drop (length keys - w.goal) keys, length-take (length keys - w.goal) keys))
            (subst (λ ks. TrueTo figures holds w'.keeper rows' heads' ks (xs ++ key ∷ [])) (append_assoc before past (x ∷ []))
            (s.takes refl (before ++ past) xs x (subst (TrueTo figures holds w.keeper rows heads (before ++ past)) e t)))

-- A window that still fills has one key more, and one that slides as many as it had.
grows : (f : Figures) (goal : ℕ) → f.size < goal → grown f ≡ moved_on goal f
grows f goal room = ap (λ n. record { accuracy = f.accuracy; span = f.span; puts = f.puts + 1; size = n }) (sym (min-eq_left (omega arith)))

stays : (f : Figures) (goal : ℕ) → f.size ≡ goal → shrunk (grown f) ≡ moved_on goal f
stays f goal full = ap (λ n. record { accuracy = f.accuracy; span = f.span; puts = f.puts + 1; size = n }) (omega arith)

module _ {P K : Type 0} (figures : P → Figures) (holds : P → List (Row K) → List Head → List K → List K → Type 0) (need : ℕ → ℕ → Lengths) (rows rows' : List (Row K)) (heads heads' : List Head) (key : K) where
  pub moved_ok : (s s' : State P) (w : Fixed P) → IsSettled figures s → Moved figures holds need s rows heads key (Ok tt) s' rows' heads' → w ≡ fixed_of s'
      → Accepted figures holds need (fixed_of s) rows heads key w rows' heads'
  moved_ok s s' w settled moved e = subst (λ v. Accepted figures holds need (fixed_of s) rows heads key v rows' heads') (sym e) (by s s' settled moved)
    where
      by : (s s' : State P) → IsSettled figures s → Moved figures holds need s rows heads key (Ok tt) s' rows' heads' → Accepted figures holds need (fixed_of s) rows heads key (fixed_of s') rows' heads'
      by (Filling w) (Filling w') settled f = record {
        answer = sym (fills_as (needed figures need w.keeper) (lengths rows heads) (figures w.keeper) w.goal (settled.fills refl)) ∙ sym f.answer;
        tells = f.tells refl ∙ grows (figures w.keeper) w.goal (settled.fills refl);
        goal = f.goal;
        takes = λ before keys. filled_takes figures holds need w rows rows' heads heads' key w' before keys (settled.fills refl) f;
        rows_rest = f.rows_rest;
        heads_rest = f.heads_rest;
      }
      by (Sliding w) (Sliding w') settled f = record {
        answer = sym f.answer;
        tells = f.tells refl ∙ stays (figures w.keeper) w.goal (settled.full refl);
        goal = f.goal;
        takes = λ before keys. slid_takes figures holds need w rows rows' heads heads' key w' before keys settled.some (settled.full refl) f;
        rows_rest = f.rows_rest;
        heads_rest = f.heads_rest;
      }
      by (Filling w) (Sliding w') settled f = absurd f
      by (Sliding w) (Filling w') settled f = absurd f

  pub moved_err : (s s' : State P) (reason : Refusal) → IsSettled figures s → Moved figures holds need s rows heads key (Err reason) s' rows' heads'
      → Rejected figures holds need (fixed_of s) rows heads (record { value = fixed_of s'; refusal = Keeper reason }) rows' heads'
  moved_err (Filling w) (Filling w') reason settled f =
      let kept = f.kept refl in
      record {
        reason = reason;
        answer = sym (fills_as (needed figures need w.keeper) (lengths rows heads) (figures w.keeper) w.goal (settled.fills refl)) ∙ sym f.answer;
        kept = ap (λ v. record { value = v; refusal = Keeper reason }) kept.0;
        rows_kept = kept.1;
        heads_kept = kept.2;
      }
  moved_err (Sliding w) (Sliding w') reason settled f =
      let kept = f.kept refl in
      record {
        reason = reason;
        answer = sym f.answer;
        kept = ap (λ v. record { value = v; refusal = Keeper reason }) kept.0;
        rows_kept = kept.1;
        heads_kept = kept.2;
      }
  moved_err (Filling w) (Sliding w') reason settled f = absurd f
  moved_err (Sliding w) (Filling w') reason settled f = absurd f
