-- A reading, from the answers that it is made of.
use Rattle.std.proofs.Common.{◌≡◌, ℕ, true, List, Some, None, Err, arith}
use Rattle.sentences.specs.Reader.{sum_right, address_bytes, address_of, sounder_of, fields_of, depth_at, reading_of}
use Rattle.sentences.specs.Shape.{shape_fault}
use Rattle.sentences.specs.declared.error.SentenceError.TheVariants.{Shape}

-- once shape and sum are right, the address and the fields decide
pub reading_of_parts : (xs : List ℕ) → shape_fault xs ≡ None → sum_right xs ≡ true → reading_of xs ≡ depth_at (sounder_of (address_bytes xs)) (fields_of xs)
reading_of_parts xs shape sum = grind arith

-- a wrong shape is all that is said of bytes
pub address_unshaped : (xs : List ℕ) (column : ℕ) → shape_fault xs ≡ Some column → address_of xs ≡ Err (Shape column)
address_unshaped xs column fault = grind arith

pub reading_unshaped : (xs : List ℕ) (column : ℕ) → shape_fault xs ≡ Some column → reading_of xs ≡ Err (Shape column)
reading_unshaped xs column fault = grind arith
