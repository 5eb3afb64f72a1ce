-- What makes a keeper: the contracts of its calls. Assumes nothing.
--
-- A keeper has a record of numbers, and works on a row table and a head table that the caller lends. `holds` is the keeper's own account of when record and tables are true to a window, after the keys of a past were let go, both oldest first; nothing is known of it but what these contracts say.
use Rattle.std.specs.Prelude.{◌≡◌, ℕ, ◌+◌, ◌-◌, ◌*◌, ◌^◌, ◌<◌, ◌≤◌, Bool, true, false, List, [], ◌∷◌, ◌++◌, map, length, drop, is_ok, Result, All}
use Rattle.likeness.specs.Counts.{Stands, true_count}
use Rattle.tally.specs.declared.rows.Head.{Head}
use Rattle.tally.specs.declared.rows.Row.{Row}
use Rattle.tally.specs.Slots.{over}
use Rattle.keeper.specs.declared.entry.Entry.{Entry}
use Rattle.keeper.specs.declared.lengths.Lengths.{Lengths}
use Rattle.keeper.specs.declared.refusal.Refusal.{Refusal}
use Rattle.keeper.specs.Figures.{Figures, newly, grown, shrunk}
use Rattle.keeper.specs.Listing.{Apart, among, bracket_in}
use Rattle.keeper.specs.Tables.{lengths, needed}
use Rattle.keeper.specs.Refusals.{unfit, put_answer, drop_answer, count_answer, list_answer}

-- floor and ceiling, at accuracy a and in a window of n keys, for a key that truly counts `count`
pub record Bracket (a n count : ℕ) (bracket : ℕ × ℕ) : Type 0 where
  pub floor : bracket.0 ≤ count
  pub ceiling : count ≤ bracket.1
  pub near : 1 ≤ n → 2 ^ a * (bracket.1 - bracket.0) < n
  pub none : n ≡ 0 → bracket ≡ (0, 0)

-- entries name every key that is alike to the key of one of them
abbrev pub Named : {K : Type 0} → (K → K → Bool) → List (Entry K) → K → Type 0
Named alike entries k = among alike (map (λ e. e.key) entries) k ≡ true

-- entries are right as the list of a window at a threshold
pub record Lists {K : Type 0} (alike : K → K → Bool) (a threshold : ℕ) (window : List K) (entries : List (Entry K)) : Type 0 where
  pub once : Apart alike (map (λ e. e.key) entries)
  -- whatever truly counts the threshold or more is named
  pub all : (k : K) → threshold ≤ true_count alike window k → Named alike entries k
  -- what is named stands in the window, and is not far below the threshold
  pub stand : All (λ e. Stands alike window e.key) entries
  pub near : All (λ e. 2 ^ a * (threshold - true_count alike window e.key) < length window) entries
  pub brackets : All (λ e. Bracket a (length window) (true_count alike window e.key) (bracket_in e)) entries

module _ {S K : Type 0} (figures : S → Figures) (holds : S → List (Row K) → List Head → List K → List K → Type 0) where
  -- record and tables are true to a window, and the record tells its size and how many keys came in all
  pub record TrueTo (s : S) (rows : List (Row K)) (heads : List Head) (past window : List K) : Type 0 where
    pub held : holds s rows heads past window
    pub size : (figures s).size ≡ length window
    pub puts : (figures s).puts ≡ length past + length window

  -- a keeper as it is made is true to the empty window, whatever the tables hold
  pub record Fresh (a span : ℕ) (s : S) : Type 0 where
    pub tells : figures s ≡ newly a span
    pub blank : (rows : List (Row K)) (heads : List Head) → TrueTo s rows heads [] []

  -- a drop: whatever tables were true to a window are true to what is left of it
  pub record Dropped (s : S) (r : Result (Unit {0}) Refusal) (s' : S) : Type 0 where
    pub answer : r ≡ drop_answer (figures s)
    pub tells : is_ok r ≡ true → figures s' ≡ shrunk (figures s)
    pub leaves : is_ok r ≡ true → (rows : List (Row K)) (heads : List Head) (past : List K) (oldest : K) (window : List K)
        → TrueTo s rows heads past (oldest ∷ window) → TrueTo s' rows heads (past ++ oldest ∷ []) window
    pub kept : is_ok r ≡ false → s' ≡ s

  module _ (need : ℕ → ℕ → Lengths) where
    -- a put
    pub record Put (s : S) (rows : List (Row K)) (heads : List Head) (key : K) (r : Result (Unit {0}) Refusal) (s' : S) (rows' : List (Row K)) (heads' : List Head) : Type 0 where
      pub answer : r ≡ put_answer (needed figures need s) (lengths rows heads) (figures s)
      pub tells : is_ok r ≡ true → figures s' ≡ grown (figures s)
      pub takes : is_ok r ≡ true → (past window : List K) → TrueTo s rows heads past window → TrueTo s' rows' heads' past (window ++ key ∷ [])
      pub kept : is_ok r ≡ false → (s' ≡ s) × (rows' ≡ rows) × (heads' ≡ heads)
      pub rows_rest : drop (needed figures need s).rows rows' ≡ drop (needed figures need s).rows rows
      pub heads_rest : drop (needed figures need s).heads heads' ≡ drop (needed figures need s).heads heads

    module _ (alike : K → K → Bool) (bracket : S → List (Row K) → List Head → K → ℕ × ℕ) where
      -- a count: its bracket follows from record, tables and key
      pub record Counted (s : S) (rows : List (Row K)) (heads : List Head) (key : K) (r : Result (ℕ × ℕ) Refusal) : Type 0 where
        pub answer : r ≡ count_answer (needed figures need s) (lengths rows heads) (bracket s rows heads key)
        pub right : (past window : List K) → TrueTo s rows heads past window
            → Bracket (figures s).accuracy (length window) (true_count alike window key) (bracket s rows heads key)
        pub same : (past window : List K) → TrueTo s rows heads past window
            → (other : K) → alike key other ≡ true → bracket s rows heads other ≡ bracket s rows heads key

      module _ (listing : S → List (Row K) → List Head → ℕ → List (Entry K)) where
        -- a list: its entries follow from record, tables and threshold, and are written over the front of the given list
        pub record Listed (s : S) (rows : List (Row K)) (heads : List Head) (threshold : ℕ) (list : List (Entry K)) (r : Result ℕ Refusal) (list' : List (Entry K)) : Type 0 where
          pub answer : r ≡ list_answer (needed figures need s) (lengths rows heads) (figures s) threshold (length list) (length (listing s rows heads threshold))
          pub written : is_ok r ≡ true → list' ≡ over (listing s rows heads threshold) list
          pub kept : is_ok r ≡ false → list' ≡ list
          pub counts : All (λ e. bracket_in e ≡ bracket s rows heads e.key) (listing s rows heads threshold)
          pub right : unfit (figures s) threshold ≡ false → (past window : List K) → TrueTo s rows heads past window
              → Lists alike (figures s).accuracy threshold window (listing s rows heads threshold)
