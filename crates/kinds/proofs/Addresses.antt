-- The addresses that are read of sentences are ASCII, and so are those that are listed. Assumes nothing.
use Rattle.std.proofs.Common.{◌≡◌, ℕ, ◌-◌, ◌<◌, Bool, true, leb, List, length, Ok, Err, Result, refl, arith}
use Rattle.std.specs.List.{All}
use Rattle.std.proofs.ByRecursion.{All-weaker}
use Rattle.std.proofs.lemmas.Bool.Decides.{nat_tests}
use Rattle.std.proofs.lemmas.List.Elements.{All-drop, All-filter, All-map}
use Rattle.sentences.specs.Bytes.{is_address_byte}
use Rattle.sentences.specs.Reader.{address_of}
use Rattle.sentences.specs.declared.error.SentenceError.{SentenceError}
use Rattle.sentences.specs.declared.reader.Address.{Address}
use Rattle.sentences.proofs.Laws.{address_exactly}
use Rattle.likeness.specs.declared.address.AddressKey.{AddressKey}
use Rattle.keeper.specs.Figures.{Figures}
use Rattle.keeper.specs.Listing.{firsts, listed, entry_of}
use Rattle.keeper.proofs.Listings.{all_firsts}
use Rattle.likeness.specs.Agree.{same_kind}
use Rattle.ring.specs.Rings.{exactly, window_of}
use Rattle.latest.specs.WithTables.{InTables}
use Rattle.kinds.specs.Kinds.{as_key, IsAscii, IsRightFor, key_of, kinds_in, threshold_of}

address_ascii : (b : ℕ) → is_address_byte b ≡ true → b < 128
address_ascii b h = grind (arith, nat_tests)

pub read_ascii : (text : List ℕ) (key : AddressKey) → key_of text ≡ Ok key → IsAscii key
read_ascii text key read = by (address_of text) refl read
  where
    by : (r : Result Address SentenceError) → address_of text ≡ r → as_key r ≡ Ok key → IsAscii key
    by (Ok address) e f =
        let has = (address_exactly text (address_of text) refl address).0 e in
        let same : address.bytes ≡ key.bytes = cc in
        rw (← same) (All-weaker (λ b. is_address_byte b ≡ true) (λ b. b < 128) address_ascii address.bytes has.1.shaped.address_bytes)
    by (Err error) e f = absurd (cc)

-- Whatever all keys of a window have, all listed keys have.
listed_all : {K : Type 0} (alike : K → K → Bool) (bracket : K → ℕ × ℕ) (threshold : ℕ) (P : K → Type 0) (keys : List K) → All P keys → All (λ e. P e.key) (listed alike bracket threshold keys)
listed_all alike bracket threshold P keys all =
    All-map (λ e. P e.key) (λ k. entry_of k (bracket k)) _ (All-filter (λ k. leb threshold (bracket k).1) P (firsts alike keys) (all_firsts alike P keys all))

module _ (kinds : InTables AddressKey Figures) (values : List AddressKey) (right : IsRightFor kinds values) where
  pub kinds_ascii : (n : ℕ) → All (λ e. IsAscii e.key) (kinds_in n (window_of kinds.window.keeper kinds.rows))
  kinds_ascii n =
      let keys = window_of kinds.window.keeper kinds.rows in
      let alike : AddressKey → AddressKey → Bool = λ x y. same_kind x.bytes y.bytes in
      listed_all alike (exactly alike keys) (threshold_of n) IsAscii keys (rw right.holds.held (All-drop IsAscii (length values - kinds.window.goal) values right.ascii))
