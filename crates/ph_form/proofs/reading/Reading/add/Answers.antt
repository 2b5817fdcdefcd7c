use Rattle.std.proofs.Common.{◌≡◌, sym, subst, arith, rules, Some}
use Rattle.std.specs.Str.{IsUtf8}
use Rattle.ph_form.specs.Index.{leaves_in}
use Rattle.ph_form.specs.Leaves.{filled}
use Rattle.ph_form.specs.Names.{base_of, keys_of}
use Rattle.ph_form.proofs.Utf8Lemmas.{keys_are, base_utf8, name_keys_utf8, filled_utf8}
use Rattle.ph_form.proofs.reading.Reading.add.Goals as goal

pub put-requires-clause-name : goal.put-requires-clause-name
put-requires-clause-name c =
    let keys : keys_of c.args.name.now ≡ Some c.in-Some.keys.items = keys_are c.args.name.now c.in-Some.keys c.in_ok-keys.field-0 c.in-Some.is (rw c.as_bytes.ensures.value at c.in_ok-keys.ensures) in
    let whole : c.in_ok-whole.whole ≡ filled (leaves_in c.args.self.now) (base_of c.args.name.now) c.in-Some.keys.items = search rules in
    subst IsUtf8 (sym whole)
    (filled_utf8 (leaves_in c.args.self.now) (base_of c.args.name.now) c.in-Some.keys.items (omega arith)
    (base_utf8 c.args.name.now c.utf8.name) (name_keys_utf8 c.args.name.now c.in-Some.keys.items c.utf8.name keys))
