use Rattle.std.proofs.Common.{rules}
use Rattle.crosscheck.proofs.ApartEntries.{apart_first}
use Rattle.crosscheck.proofs.entries.+are_apart.Goals as goal

pub returns-then-is_apart_from : goal.returns-then-is_apart_from
returns-then-is_apart_from g t c =
    let first = apart_first g.K.Likeness.alike _ _ _ c.in-Some.ensures.cases.0 in
    (λ rest. first.1 (c.is_apart_from.ensures.0 c.if-is_apart_from.true, c.are_apart.ensures.0 rest), λ apart. c.are_apart.ensures.1 (first.0 apart).1)

pub returns-else-is_apart_from : goal.returns-else-is_apart_from
returns-else-is_apart_from g t c =
    let first = apart_first g.K.Likeness.alike _ _ _ c.in-Some.ensures.cases.0 in
    (λ apart. absurd (search rules), λ apart. c.is_apart_from.ensures.1 (first.0 apart).0)
