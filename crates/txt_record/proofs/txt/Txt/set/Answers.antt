use Rattle.std.proofs.Common.{◌≡◌, true, List, ℕ, ◌∙◌, ap, sym, length, arith}
use Rattle.std.specs.Option.{option_copied}
use Rattle.txt_record.specs.Strings.{txt_data}
use Rattle.txt_record.specs.Pairs.{is_key, entry_of, put, lookup}
use Rattle.txt_record.proofs.Runs.{is_txt-made, strings_of-made}
use Rattle.txt_record.proofs.Lookups.{lookup-put, lookup-put_other}
use Rattle.txt_record.proofs.txt.Txt.set.Goals as goal

-- the bytes that were made are the data of the new strings
made : (c : goal.After-drop-self-inside) → c.in_ok-self-inside.field-0.items ≡ txt_data (put c.args.key.now (entry_of c.args.key.now (option_copied c.args.value)) c.args.self.now)
made c =
    let value = option_copied c.args.value in
    c.in_ok-self-inside.ensures.ok ∙ sym (c.around.ensures.bytes (entry_of c.as_bytes-key.result.now value))
    ∙ ap (λ (key : List ℕ). txt_data (put key (entry_of key value) c.args.self.now)) c.as_bytes-key.ensures.value

pub invariant_of-self : goal.invariant_of-self
invariant_of-self c = is_txt-made _ _ (made c) (omega (arith, ap length (made c), c.in_ok-self-inside.ensures.short))

pub returns-clause-ok : goal.returns-clause-ok
returns-clause-ok c = strings_of-made _ _ (made c)

-- the key is one
key_is : (c : goal.After-drop-self-inside) → is_key c.args.key.now ≡ true
key_is c = ap is_key (sym c.as_bytes-key.ensures.value) ∙ sym c.if-not-is_key.ensures

pub returns-clause-found : goal.returns-clause-found
returns-clause-found c =
    ap (lookup c.args.key.now) (strings_of-made _ _ (made c)) ∙ lookup-put c.args.key.now (option_copied c.args.value) c.args.self.now (key_is c)

pub returns-clause-others : goal.returns-clause-others
returns-clause-others c = λ other differ.
    ap (lookup other) (strings_of-made _ _ (made c)) ∙ lookup-put_other c.args.key.now other (option_copied c.args.value) c.args.self.now (key_is c) differ
