-- Whole already from the field 1075 on, and else the whole number below the sign.
use Rattle.ieee.proofs.Integral.{round_of_nan, whole_already, neg_round}
use Rattle.ieee.proofs.Fields.{by_fields}
use Rattle.ieee.proofs.Nan.{told, told_nan}
use Rattle.ieee.specs.Rounding.{round_of}
use lib.Ieee.{binary64, to_bits, in_float, of_int}
use Rattle.std.proofs.Common.{◌^◌, true, false, sym, ap, ◌∙◌, le→leb, le-leb}
use Rattle.std.proofs.lemmas.Float.{T_from_false}
use borrow.Author.Tests.{lt-leb}
use Rattle.ieee.proofs.round.Goals as goal

pub returns-then-is_nan : goal.returns-then-is_nan
returns-then-is_nan c =
    let e = told_nan c.args.x (sym c.is_nan.ensures.value ∙ c.if-is_nan.true) in
    e ∙ sym (ap round_of e ∙ round_of_nan)

pub returns-then-e-ge-WHOLE : goal.returns-then-e-ge-WHOLE
returns-then-e-ge-WHOLE c =
    sym (whole_already c.args.x (told c.well_formed.0.1) (T_from_false _ (sym c.is_nan.ensures.value ∙ c.if-is_nan.false)) c.if-e-ge-WHOLE.true)

pub int_to_float-r : goal.int_to_float-r
unfolding in_float
int_to_float-r c = le→leb c.whole_fields-r.result (2 ^ 53) c.whole_fields-r.ensures.1

pub returns-then-b-lt-SIGN_64 : goal.returns-then-b-lt-SIGN_64
unfolding of_int
returns-then-b-lt-SIGN_64 c =
    sym (c.whole_fields-r.ensures.0 false) ∙ ap round_of (by_fields c.args.x false (told c.well_formed.0.1) (lt-leb (2 ^ 63) (to_bits binary64 c.args.x) c.if-b-lt-SIGN_64.true))

pub returns-else-b-lt-SIGN_64 : goal.returns-else-b-lt-SIGN_64
unfolding of_int
returns-else-b-lt-SIGN_64 c =
    let r = c.whole_fields-r in
    neg_round binary64 false r.result 1
    ∙ sym (r.ensures.0 true)
    ∙ ap round_of (by_fields c.args.x true (told c.well_formed.0.1) (le-leb (2 ^ 63) (to_bits binary64 c.args.x) c.if-b-lt-SIGN_64.false))
