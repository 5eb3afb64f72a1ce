-- What the definitions give for each worked case, written as numbers. Keys are numbers, and alike where they are equal. Assumes nothing.
use Rattle.std.specs.Prelude.{ℕ, Bool, if◌then◌else◌, List, [], ◌∷◌, ◌++◌, Result, Ok, Err, pos, negsuc, nat_eq, length, map, replicate, codes}
use Rattle.bands.specs.Bands.{band}
use Rattle.likeness.specs.Agree.{same_kind}
use Rattle.tally.specs.declared.rows.Row.{Row}
use Rattle.tally.specs.Steps.{Summary, run}
use Rattle.layout.specs.Blocks.{size}
use Rattle.layout.specs.Slots.{Shape, shape_of}
use Rattle.layout.specs.Covers.{cover_of, ignored_of}
use Rattle.keeper.specs.declared.entry.Entry.{Entry}
use Rattle.keeper.specs.declared.lengths.Lengths.{Lengths}
use Rattle.keeper.specs.declared.refusal.Refusal.{Refusal}
use Rattle.keeper.specs.Figures.{Figures}
use Rattle.keeper.specs.Refusals.{count_answer, drop_answer, list_answer, number_of}
use Rattle.ladder.specs.Ladders.{need_of}
use Rattle.ladder.specs.Exact.{counts, lists}

-- a tally's rows, each as key and count, and then what it lost
abbrev pub rows_in_numbers : List (Row ℕ) → List ℕ
rows_in_numbers [] = []
rows_in_numbers (row ∷ rest) = row.key ∷ row.count ∷ rows_in_numbers rest

abbrev pub tally_in_numbers : Summary ℕ → List ℕ
tally_in_numbers tally = rows_in_numbers tally.rows ++ tally.lost ∷ []

-- the sizes of a cover's blocks, and then what it ignores
abbrev pub cover_in_numbers : Shape → ℕ → ℕ → List ℕ
cover_in_numbers shape puts held = map size (cover_of shape puts held) ++ ignored_of shape puts held ∷ []

-- the number of a refusal, or what is answered otherwise
abbrev pub answer_in_numbers : {X : Type 0} → (X → List ℕ) → Result X Refusal → List ℕ
answer_in_numbers told (Ok value) = told value
answer_in_numbers told (Err refusal) = number_of refusal ∷ []

-- entries, each as key, floor and ceiling
abbrev pub entries_in_numbers : List (Entry ℕ) → List ℕ
entries_in_numbers [] = []
entries_in_numbers (entry ∷ rest) = entry.key ∷ entry.floor ∷ entry.ceiling ∷ entries_in_numbers rest

-- rows, and then heads
abbrev pub need_in_numbers : Lengths → List ℕ
need_in_numbers need = need.rows ∷ need.heads ∷ []

-- 1 for alike, and 0 for unlike
abbrev pub likeness_in_numbers : Bool → ℕ
likeness_in_numbers alike = if alike then 1 else 0

-- a ladder of accuracy 1 and span 5 that as many keys came to, all of them 7, and none went
abbrev pub figures_after : ℕ → Figures
figures_after keys = record { accuracy = 1; span = 5; puts = keys; size = keys }

-- what it counts of the key 7, and lists at a threshold, with tables and list that are long enough
abbrev pub count_after : ℕ → List ℕ
count_after keys = answer_in_numbers (λ bracket. bracket.0 ∷ bracket.1 ∷ []) (count_answer (need_of 1 5) (need_of 1 5) (counts nat_eq 1 5 [] (replicate keys 7) 7))

abbrev pub list_after : ℕ → ℕ → List ℕ
list_after keys threshold =
    answer_in_numbers (λ named. entries_in_numbers (lists nat_eq 1 5 [] (replicate keys 7) threshold))
    (list_answer (need_of 1 5) (need_of 1 5) (figures_after keys) threshold 32 (length (lists nat_eq 1 5 [] (replicate keys 7) threshold)))

abbrev pub drop_after : ℕ → List ℕ
drop_after keys = answer_in_numbers (λ done. []) (drop_answer (figures_after keys))

-- the cases, one after the other
abbrev pub given : List (List ℕ)
given =
    tally_in_numbers (run nat_eq 2 (1 ∷ 2 ∷ 1 ∷ 3 ∷ []))
    ∷ tally_in_numbers (run nat_eq 2 (1 ∷ 2 ∷ 1 ∷ 3 ∷ 4 ∷ 2 ∷ []))
    ∷ cover_in_numbers (shape_of 1 7) 100 90
    ∷ count_after 16
    ∷ count_after 17
    ∷ list_after 17 8
    ∷ list_after 17 9
    ∷ need_in_numbers (need_of 1 4)
    ∷ need_in_numbers (need_of 6 20)
    ∷ map band (pos 45 ∷ pos 46 ∷ pos 98 ∷ negsuc 59 ∷ [])
    ∷ map (λ kind. likeness_in_numbers (same_kind (codes "SDDPT") kind)) (codes "IIDPT" ∷ codes "SDDBT" ∷ [])
    ∷ count_after 0
    ∷ drop_after 0
    ∷ []
