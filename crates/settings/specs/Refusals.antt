-- Which settings are refused, and as what: for code and promises alike. Where both reasons hold, the lower number is told. Assumes nothing.
use Rattle.std.specs.Prelude.{◌≡◌, ℕ, ◌+◌, if◌then◌else◌, ◌||◌, List, ◌++◌, Some, None, Ok, Err, Option, Result, nat_lt, codes, decimal}
use Rattle.settings.specs.declared.refusal.SettingRefusal.{SettingRefusal}
use Rattle.settings.specs.declared.refusal.SettingRefusal.TheVariants.{Accuracy, Span}
use Rattle.settings.specs.declared.setting.Setting.{Setting}
use Rattle.settings.specs.Chosen.{least_accuracy, most_accuracy, least_margin, most_span}

-- the number of each refusal
abbrev pub number_of : SettingRefusal → ℕ
number_of Accuracy = 1
number_of Span = 2

-- a refusal in words: `refused NUMBER`
abbrev pub refusal_text : SettingRefusal → List ℕ
refusal_text refusal = codes "refused " ++ decimal (number_of refusal)

-- why there is no setting of accuracy a and span k, if there is none
abbrev pub unset : ℕ → ℕ → Option SettingRefusal
unset a k =
    if nat_lt a least_accuracy || nat_lt most_accuracy a then Some Accuracy
    else if nat_lt k (a + least_margin) || nat_lt most_span k then Some Span
    else None

-- a setting is made of just these two numbers, unless there is a reason why not
abbrev pub Made : ℕ → ℕ → Result Setting SettingRefusal → Type 0
Made a k (Ok s) = (unset a k ≡ None) × (s.accuracy ≡ a) × (s.span ≡ k)
Made a k (Err e) = unset a k ≡ Some e
