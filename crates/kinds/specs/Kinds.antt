-- What linewatch reads of a line, and what it keeps of that. Assumes nothing.
use Rattle.std.specs.Prelude.{◌≡◌, ℕ, ◌+◌, ◌/◌, ◌<◌, List, [], length, max, Ok, Err, Result, All}
use Rattle.std.specs.List.{AllByRecursion, flat_map}
use Rattle.sentences.specs.declared.error.SentenceError.{SentenceError}
use Rattle.sentences.specs.declared.reader.Address.{Address}
use Rattle.sentences.specs.Reader.{address_of}
use Rattle.likeness.specs.Agree.{same_kind}
use Rattle.likeness.specs.declared.address.AddressKey.{AddressKey}
use Rattle.keeper.specs.declared.entry.Entry.{Entry}
use Rattle.keeper.specs.Figures.{Figures}
use Rattle.ring.specs.Rings.{HoldsWindow, listing_of}
use Rattle.latest.specs.Latest.{latest}
use Rattle.latest.specs.WithTables.{HoldsLatestIn, InTables}
use Rattle.kinds.specs.Printed.{kind_text}

-- The address of a sentence as it is counted.
abbrev pub as_key : Result Address SentenceError → Result AddressKey SentenceError
as_key (Ok address) = Ok (record { bytes = address.bytes })
as_key (Err error) = Err error

abbrev pub key_of : List ℕ → Result AddressKey SentenceError
key_of text = as_key (address_of text)

-- How many keys the window has at most.
abbrev pub most_keys : ℕ
most_keys = 63

-- What counts an eighth of a window of n keys is listed, rounded up, and at least 1.
abbrev pub threshold_of : ℕ → ℕ
threshold_of n = max ((n + 7) / 8) 1

-- The kinds that are listed of a window of n keys.
abbrev pub kinds_in : ℕ → List AddressKey → List (Entry AddressKey)
kinds_in n window = listing_of (λ x y. same_kind x.bytes y.bytes) window (threshold_of n)

-- All that is printed at the end, about these addresses.
abbrev pub kinds_text : List AddressKey → List ℕ
kinds_text keys = let window = latest most_keys keys in flat_map kind_text (kinds_in (length window) window)

-- A counter of kinds is its window: of accuracy 3 and span 6, and of the right size.
pub record IsSet (kinds : InTables AddressKey Figures) : Type 0 where
  pub accuracy : kinds.window.keeper.accuracy ≡ 3
  pub span : kinds.window.keeper.span ≡ 6
  pub goal : kinds.window.goal ≡ most_keys

-- A key of ASCII bytes.
abbrev pub IsAscii : AddressKey → Type 0
IsAscii key = AllByRecursion (λ b. b < 128) key.bytes

-- A counter is right for keys if its window holds the latest of them, and all can be printed.
pub record IsRightFor (kinds : InTables AddressKey Figures) (keys : List AddressKey) : Type 0 where
  pub goal : kinds.window.goal ≡ most_keys
  pub holds : HoldsLatestIn (λ s. s) HoldsWindow kinds [] keys
  pub ascii : All IsAscii keys
