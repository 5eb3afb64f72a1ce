-- Where the parts of a well-shaped sentence lie in its bytes.
use Rattle.std.proofs.Common.{◌≡◌, ℕ, ◌+◌, ◌-◌, List, [], ◌∷◌, ◌++◌, length, get_or, take, drop, sym, refl, ap, ◌∙◌, subst, arith}
use Rattle.std.proofs.lemmas.List.{length-append, take_at, get_or-append-add}
use Rattle.sentences.specs.Format.{Shaped}
use Rattle.sentences.specs.Reader.{address_bytes, fields_of}

pub record Placed (bytes address fields digits : List ℕ) : Type 0 where
  pub at_address : address_bytes bytes ≡ address
  pub at_fields : fields_of bytes ≡ fields
  pub at_summed : take (length bytes - 4) (drop 1 bytes) ≡ address ++ fields
  pub at_digits : get_or bytes (length bytes - 2) 0 ∷ get_or bytes (length bytes - 1) 0 ∷ [] ≡ digits

-- the bytes that parts make
abbrev joined : List ℕ → List ℕ → List ℕ → List ℕ
joined address fields digits = 36 ∷ (address ++ (fields ++ (42 ∷ digits)))

placed_joined : (address fields digits : List ℕ) → length address ≡ 5 → length digits ≡ 2 → Placed (joined address fields digits) address fields digits
placed_joined [] fields digits five two = absurd (omega arith)
placed_joined (a ∷ []) fields digits five two = absurd (omega arith)
placed_joined (a ∷ b ∷ []) fields digits five two = absurd (omega arith)
placed_joined (a ∷ b ∷ c ∷ []) fields digits five two = absurd (omega arith)
placed_joined (a ∷ b ∷ c ∷ d ∷ []) fields digits five two = absurd (omega arith)
placed_joined (a ∷ b ∷ c ∷ d ∷ e ∷ f ∷ more) fields digits five two = absurd (omega arith)
placed_joined (a ∷ b ∷ c ∷ d ∷ e ∷ []) fields [] five two = absurd (omega arith)
placed_joined (a ∷ b ∷ c ∷ d ∷ e ∷ []) fields (h ∷ []) five two = absurd (omega arith)
placed_joined (a ∷ b ∷ c ∷ d ∷ e ∷ []) fields (h ∷ l ∷ m ∷ more) five two = absurd (omega arith)
placed_joined (a ∷ b ∷ c ∷ d ∷ e ∷ []) fields (h ∷ l ∷ []) five two =
    let front = 36 ∷ a ∷ b ∷ c ∷ d ∷ e ∷ fields in
    let bytes = front ++ (42 ∷ h ∷ l ∷ []) in
    let long : length bytes ≡ length front + 3 = length-append front (42 ∷ h ∷ l ∷ []) in
    let high : length bytes - 2 ≡ length front + 1 = omega arith in
    let low : length bytes - 1 ≡ length front + 2 = omega arith in
    record {
      at_address = refl;
      at_fields = take_at fields (42 ∷ h ∷ l ∷ []) (length bytes - 9) (omega arith);
      at_summed = take_at (a ∷ b ∷ c ∷ d ∷ e ∷ fields) (42 ∷ h ∷ l ∷ []) (length bytes - 4) (omega arith);
      at_digits = ap (λ n. get_or bytes n 0 ∷ get_or bytes (length bytes - 1) 0 ∷ []) high ∙ ap (λ n. get_or bytes (length front + 1) 0 ∷ get_or bytes n 0 ∷ []) low ∙ ap (λ x. x ∷ get_or bytes (length front + 2) 0 ∷ []) (get_or-append-add front (42 ∷ h ∷ l ∷ []) 1 0) ∙ ap (λ x. h ∷ x ∷ []) (get_or-append-add front (42 ∷ h ∷ l ∷ []) 2 0);
    }

pub placed : (bytes address fields digits : List ℕ) → Shaped bytes address fields digits → Placed bytes address fields digits
placed bytes address fields digits s =
    subst (λ (xs : List ℕ). Placed xs address fields digits) (sym s.joined) (placed_joined address fields digits s.address_five s.digits_two)
