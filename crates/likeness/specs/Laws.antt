-- Keys that are alike exactly where something of theirs is equal. Assumes nothing.
use Rattle.std.specs.Prelude.{◌≡◌, ℕ, Bool, true, List, Decides, ◌==◌, slice_index, refl}
use Rattle.std.proofs.Common.{sym, ap, ◌∙◌}
use Rattle.std.proofs.lemmas.Slice.Eq.{bytes_eq-Decides}
use Rattle.std.proofs.lemmas.Bool.{and_parts, and_from, eqb-true, eq-eqb}
use Rattle.likeness.specs.Agree.{same_sounder, same_sounding, kind_of, same_kind}
use Rattle.likeness.specs.declared.address.AddressKey.{AddressKey}
use Rattle.likeness.specs.declared.sounding.SoundingKey.{SoundingKey}

module _ {K A : Type 0} (part : K → A) (alike : K → K → Bool) (decides : (x y : K) → Decides (alike x y) (part x ≡ part y)) where
  pub reflexive : (x : K) → alike x x ≡ true
  reflexive x = (decides x x).1 refl

  pub symmetric : (x y : K) → alike x y ≡ true → alike y x ≡ true
  symmetric x y h = (decides y x).1 (sym ((decides x y).0 h))

  pub transitive : (x y z : K) → alike x y ≡ true → alike y z ≡ true → alike x z ≡ true
  transitive x y z h k = (decides x z).1 ((decides x y).0 h ∙ (decides y z).0 k)

-- what alike addresses share: the kind of sentence
abbrev pub address_part : AddressKey → List ℕ
address_part x = kind_of x.bytes

pub address_decides : (x y : AddressKey) → Decides (same_kind x.bytes y.bytes) (address_part x ≡ address_part y)
address_decides x y = bytes_eq-Decides (address_part x) (address_part y)

-- what alike sounding keys share: both bytes of the sounder, and the band
abbrev pub sounding_part : SoundingKey → ℕ × ℕ × ℕ
sounding_part x = (slice_index x.sounder 0, slice_index x.sounder 1, x.band)

pub sounding_decides : (x y : SoundingKey) → Decides (same_sounding x y) (sounding_part x ≡ sounding_part y)
sounding_decides x y = (
  (λ h.
      let both = and_parts (same_sounder x.sounder y.sounder) (x.band == y.band) h in
      let bytes = and_parts (slice_index x.sounder 0 == slice_index y.sounder 0) (slice_index x.sounder 1 == slice_index y.sounder 1) both.0 in
      (λ t. (eqb-true _ _ bytes.0 t, eqb-true _ _ bytes.1 t, eqb-true _ _ both.1 t))),
  (λ e.
      and_from _ _
      (and_from _ _ (eq-eqb _ _ (ap (λ (p : ℕ × ℕ × ℕ). p.0) e)) (eq-eqb _ _ (ap (λ (p : ℕ × ℕ × ℕ). p.1) e)))
      (eq-eqb _ _ (ap (λ (p : ℕ × ℕ × ℕ). p.2) e))),
)
