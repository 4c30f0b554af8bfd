-- Reading one thing after another, as long as one begins, with the names of locals so far.
use Rattle.std.specs.Prelude.{ℕ, zero, suc, Bool, List, [], ◌∷◌, ◌++◌, length, Option, Some, None, if◌then◌else◌}
use Rattle.ir_base.specs.declared.name.Name.{Name}
use Rattle.text_lexer.specs.Lists.{is_shorter}
use Rattle.text_reader.specs.Reading.{◌>>=◌}
use Rattle.text_symbols.specs.declared.sym.Sym.{Sym}

-- values before those that are read
abbrev pub after : {A : Type 0} → List A → Option (List A × List Name × List Sym) → Option (List A × List Name × List Sym)
after xs None = None
after xs (Some r) = Some (xs ++ r.0, r.1, r.2)

-- at most n values
abbrev pub many_up_to : {A : Type 0} → (List Sym → Bool) → (List Name → List Sym → Option (A × List Name × List Sym)) → ℕ → List Name → List Sym → Option (List A × List Name × List Sym)
many_up_to begins p zero ns ts = if begins ts then None else Some ([], ns, ts)
many_up_to begins p (suc n) ns ts =
    if begins ts
    then (p ns ts >>= λ x. if is_shorter x.2 ts then after (x.0 ∷ []) (many_up_to begins p n x.1 x.2) else None)
    else Some ([], ns, ts)

-- all values up to the place where none begins, each of which takes a symbol at least; where one that begins isn't whole there is none
abbrev pub many_at : {A : Type 0} → (List Sym → Bool) → (List Name → List Sym → Option (A × List Name × List Sym)) → List Name → List Sym → Option (List A × List Name × List Sym)
many_at begins p ns ts = many_up_to begins p (length ts) ns ts
