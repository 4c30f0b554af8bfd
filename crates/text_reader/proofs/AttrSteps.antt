-- Turns of the loop over attributes.
use Rattle.std.proofs.Common.{◌≡◌, ◌<◌, ◌≤◌, ℕ, Bool, true, false, ◌||◌, List, length, None, refl, sym, ap, ◌∙◌}
use Rattle.std.specs.Prelude.{Some}
use Rattle.text_lexer.specs.Lists.{all_at}
use Rattle.text_lexer.proofs.ListSteps.{all_at-some, all_at-none, all_at-stuck}
use Rattle.text_symbols.specs.declared.sym.Sym.{Sym}
use Rattle.text_reader.specs.Attrs.{attr_at, any_true, attrs_at}

-- with what the attributes before gave
abbrev pub joined : Bool → Bool × List Sym → Bool × List Sym
joined b r = (b || r.0, r.1)

abbrev told : List Bool × List Sym → Bool × List Sym
told r = (any_true r.0, r.1)

or_assoc : (a b c : Bool) → (a || (b || c)) ≡ ((a || b) || c)
or_assoc true b c = refl
or_assoc false b c = refl

or_false : (a : Bool) → (a || false) ≡ a
or_false true = refl
or_false false = refl

pub attrs_turn : (gs : List (List ℕ)) (symbols ts rest : List Sym) (b m : Bool) → attrs_at gs symbols ≡ joined b (attrs_at gs ts) → attr_at gs ts ≡ Some (m, rest) → length rest < length ts → attrs_at gs symbols ≡ joined (b || m) (attrs_at gs rest)
attrs_turn gs symbols ts rest b m inv e less =
    inv ∙ ap (λ (r : List Bool × List Sym). joined b (told r)) (all_at-some (attr_at gs) ts m rest e less) ∙ ap (λ (c : Bool). (c, (all_at (attr_at gs) rest).1)) (or_assoc b m (any_true (all_at (attr_at gs) rest).0))

pub attrs_end : (gs : List (List ℕ)) (symbols ts : List Sym) (b : Bool) → attrs_at gs symbols ≡ joined b (attrs_at gs ts) → attr_at gs ts ≡ None → attrs_at gs symbols ≡ (b, ts)
attrs_end gs symbols ts b inv e =
    inv ∙ ap (λ (r : List Bool × List Sym). joined b (told r)) (all_at-none (attr_at gs) ts e) ∙ ap (λ (c : Bool). (c, ts)) (or_false b)

pub attrs_stuck : (gs : List (List ℕ)) (symbols ts rest : List Sym) (b m : Bool) → attrs_at gs symbols ≡ joined b (attrs_at gs ts) → attr_at gs ts ≡ Some (m, rest) → length ts ≤ length rest → attrs_at gs symbols ≡ (b, ts)
attrs_stuck gs symbols ts rest b m inv e more =
    inv ∙ ap (λ (r : List Bool × List Sym). joined b (told r)) (all_at-stuck (attr_at gs) ts m rest e more) ∙ ap (λ (c : Bool). (c, ts)) (or_false b)

-- the turn where one was found before, and where none was
pub attrs_turn_found : (gs : List (List ℕ)) (symbols ts rest : List Sym) (b m : Bool) → attrs_at gs symbols ≡ joined b (attrs_at gs ts) → attr_at gs ts ≡ Some (m, rest) → length rest < length ts → b ≡ true → attrs_at gs symbols ≡ joined b (attrs_at gs rest)
attrs_turn_found gs symbols ts rest b m inv e less found =
    attrs_turn gs symbols ts rest b m inv e less ∙ ap (λ (c : Bool). joined (c || m) (attrs_at gs rest)) found ∙ ap (λ (c : Bool). joined c (attrs_at gs rest)) (sym found)

pub attrs_turn_first : (gs : List (List ℕ)) (symbols ts rest : List Sym) (b m : Bool) → attrs_at gs symbols ≡ joined b (attrs_at gs ts) → attr_at gs ts ≡ Some (m, rest) → length rest < length ts → b ≡ false → attrs_at gs symbols ≡ joined m (attrs_at gs rest)
attrs_turn_first gs symbols ts rest b m inv e less none =
    attrs_turn gs symbols ts rest b m inv e less ∙ ap (λ (c : Bool). joined (c || m) (attrs_at gs rest)) none
