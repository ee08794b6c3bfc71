-- The pattern's fields (`Fields.antt`), narrowed below the sign.
use Rattle.ieee.proofs.Fields.{by_fields, top_plain, narrow_of_nan}
use Rattle.ieee.proofs.Nan.{told, told_nan, nan_read}
use Rattle.ieee.proofs.Values.{plain_bits_plus, plain_bits_minus}
use Rattle.ieee.specs.Rounding.{narrow_of}
use lib.Ieee.{binary32, binary64, of_bits, to_bits}
use Rattle.std.proofs.Common.{◌^◌, true, false, sym, ap, ◌∙◌, zero-add, arith, le-leb}
use Rattle.std.proofs.lemmas.Float.{T_from_false}
use borrow.Author.Tests.{lt-leb}
use Rattle.ieee.proofs.narrow.Goals as goal

pub returns-then-is_nan : goal.returns-then-is_nan
returns-then-is_nan c =
    let e = told_nan c.args.x (sym c.is_nan.ensures.value ∙ c.if-is_nan.true) in
    nan_read binary32 0x7fc0_0000 (omega arith) ∙ sym (ap narrow_of e ∙ narrow_of_nan)

pub narrow_fields-r-requires : goal.narrow_fields-r-requires
narrow_fields-r-requires c =
    (omega arith, omega arith, top_plain c.args.x (told c.well_formed.0.1) (T_from_false _ (sym c.is_nan.ensures.value ∙ c.if-is_nan.false)))

pub float_from_bits-result : goal.float_from_bits-result
float_from_bits-result c = plain_bits_plus c.narrow_fields-r.result c.narrow_fields-r.ensures.1

pub float_from_bits-result-else-b-lt-SIGN_64 : goal.float_from_bits-result-else-b-lt-SIGN_64
float_from_bits-result-else-b-lt-SIGN_64 c = plain_bits_minus c.narrow_fields-r.result c.narrow_fields-r.ensures.1

pub returns-then-b-lt-SIGN_64 : goal.returns-then-b-lt-SIGN_64
returns-then-b-lt-SIGN_64 c =
    let r = c.narrow_fields-r in
    ap (of_bits binary32) (sym (zero-add r.result))
    ∙ r.ensures.0 false
    ∙ ap narrow_of (by_fields c.args.x false (told c.well_formed.0.1) (lt-leb (2 ^ 63) (to_bits binary64 c.args.x) c.if-b-lt-SIGN_64.true))

pub returns-else-b-lt-SIGN_64 : goal.returns-else-b-lt-SIGN_64
returns-else-b-lt-SIGN_64 c =
    c.narrow_fields-r.ensures.0 true ∙ ap narrow_of (by_fields c.args.x true (told c.well_formed.0.1) (le-leb (2 ^ 63) (to_bits binary64 c.args.x) c.if-b-lt-SIGN_64.false))
