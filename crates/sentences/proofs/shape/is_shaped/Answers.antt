use Rattle.std.proofs.Common.{◌≡◌, length, ◌-◌, get_or, take, drop, true, subst, arith}
use Rattle.std.specs.List.{AllByRecursion}
use Rattle.sentences.specs.Bytes.{is_field_byte}
use Rattle.sentences.specs.Format.{CommaFirst}
use Rattle.sentences.proofs.Parts.{right_parts}
use Rattle.sentences.proofs.shape.is_shaped.Goals as goal

pub returns-in-36 : goal.returns-in-36
returns-in-36 c right =
    let bytes = c.args.bytes.now in
    let dollar : get_or bytes 0 0 ≡ 36 = omega arith in
    let star : get_or bytes (length bytes - 3) 0 ≡ 42 = omega arith in
    let parts = c.are_parts.ensures right in
    let fields : length bytes - 3 - 6 ≡ length bytes - 9 = omega arith in
    right_parts bytes (record {
      long = c.in-36.len_at_least;
      short = c.if-bytes-le-LONGEST.true;
      dollar = dollar;
      address = parts.0;
      fields_start = subst (λ n. CommaFirst (take n (drop 6 bytes))) fields parts.1;
      fields = subst (λ n. AllByRecursion (λ b. is_field_byte b ≡ true) (take n (drop 6 bytes))) fields parts.2;
      star = star;
      digits = parts.3;
    })
