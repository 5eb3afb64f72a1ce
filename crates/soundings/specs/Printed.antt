-- The lines that are printed at the end. Each has its LF, 10.
use Rattle.std.specs.Prelude.{ℕ, List, [], ◌∷◌, ◌++◌, codes, decimal}
use Rattle.verdicts.specs.declared.judgement.Judgement.{Judgement}
use Rattle.verdicts.specs.Verdicts.{judgement_text}

-- `readings {size}`: how many soundings the window holds
abbrev pub readings_text : ℕ → List ℕ
readings_text size = codes "readings " ++ (decimal size ++ (10 ∷ []))

-- `class {class} {verdict} {floor} {ceiling}`
abbrev pub class_text : ℕ → Judgement → List ℕ
class_text class judgement = codes "class " ++ (decimal class ++ (codes " " ++ (judgement_text judgement ++ (10 ∷ []))))
