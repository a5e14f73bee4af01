use Rattle.std.proofs.Common.{arith}
use Rattle.capi_link.specs.Links.{header_given, fields_fit, fields_header}
use Rattle.capi_link.proofs.given_header.Goals as goal

pub returns-in_default : goal.returns-in_default
unfolding header_given fields_fit fields_header
returns-in_default c = grind arith

pub returns-in_default-2 : goal.returns-in_default-2
unfolding header_given fields_fit fields_header
returns-in_default-2 c = grind arith

pub returns-in_err-ok : goal.returns-in_err-ok
unfolding header_given fields_fit fields_header
returns-in_err-ok c = grind arith

pub returns-in_err-ok-2 : goal.returns-in_err-ok-2
unfolding header_given fields_fit fields_header
returns-in_err-ok-2 c = grind arith

pub returns-in_err-ok-3 : goal.returns-in_err-ok-3
unfolding header_given fields_fit fields_header
returns-in_err-ok-3 c = grind arith

pub returns : goal.returns
unfolding header_given fields_fit fields_header
returns c = grind arith
