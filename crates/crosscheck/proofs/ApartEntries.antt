-- Entries whose keys are apart: the first from the others, and these from one another. Assumes nothing.
use Rattle.std.proofs.Common.{◌≡◌, Bool, false, List, [], ◌∷◌, ◌↔◌, map, All}
use Rattle.std.proofs.lemmas.List.Elements.{All-cons, All-head, All-map, All-nil, All-tail}
use Rattle.keeper.specs.declared.entry.Entry.{Entry}
use Rattle.keeper.specs.Listing.{Apart}

module _ {K : Type 0} (alike : K → K → Bool) where
  -- what holds of all keys holds of each entry's
  of_entries : (P : K → Type 0) (es : List (Entry K)) → All P (map (λ e. e.key) es) → All (λ e. P e.key) es
  of_entries P [] h = All-nil (λ (e : Entry K). P e.key)
  of_entries P (e ∷ es) h = All-cons (λ (e : Entry K). P e.key) e es (All-head P e.key _ h) (of_entries P es (All-tail P e.key _ h))

  pub apart_first : (entries : List (Entry K)) (e : Entry K) (es : List (Entry K)) → entries ≡ e ∷ es
      → Apart alike (map (λ e. e.key) entries) ↔ (All (λ o. alike e.key o.key ≡ false) es × Apart alike (map (λ e. e.key) es))
  apart_first entries e es is =
      let P : K → Type 0 = λ k. alike e.key k ≡ false in
      rw is (λ apart. (of_entries P es apart.0, apart.1), λ both. (All-map P (λ e. e.key) es both.0, both.1))
