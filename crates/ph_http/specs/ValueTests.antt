-- What is asked of the values of headers.
use Rattle.std.specs.Prelude.{ℕ, Bool, List}
use Rattle.ph_http.specs.Requests.{is_expectation, lists_close}
use Rattle.ph_http.specs.Verdict.{is_any, is_coded}
use Rattle.ph_http.specs.declared.fields.ValueTest.{ValueTest}
use Rattle.ph_http.specs.declared.fields.ValueTest.TheVariants as test

-- the value passes the test
abbrev pub passes : ValueTest → List ℕ → Bool
passes test.Any value = is_any value
passes test.Coded value = is_coded value
passes test.Expectation value = is_expectation value
passes test.ListsClose value = lists_close value
