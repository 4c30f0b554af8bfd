-- Steps that readers of instructions share.
use Rattle.std.proofs.Common.{◌≡◌, List, [], ◌∷◌, Option, None, refl, ap, ◌∙◌}
use Rattle.std.specs.Prelude.{Some, IfSome}
use Rattle.ir_base.specs.declared.name.Name.{Name}
use Rattle.ir_model.specs.declared.operand.Operand.{Operand}
use Rattle.text_symbols.specs.declared.sym.Mark.{Mark}
use Rattle.text_symbols.specs.declared.sym.Mark.TheVariants as marks
use Rattle.text_symbols.specs.declared.sym.Sym.{Sym}
use Rattle.text_symbols.specs.declared.sym.Sym.TheVariants as syms
use Rattle.text_symbols.specs.declared.word.Word.TheVariants as words
use Rattle.text_grammar.specs.Phrases.{Locals, ◌⨾◌, mark, plain, comma}
use Rattle.text_grammar.specs.Values.{IsValue, IsAddress}
use Rattle.text_reader.specs.Many.{after}
use Rattle.text_reader.specs.Reading.{◌>>=◌, mark_at}
use Rattle.text_reader.specs.Values.{value_at}
use Rattle.text_reader.proofs.Binding.{bind_found, bind_again}
use Rattle.text_reader.proofs.ValuesRead.{mark_found, mark_again, value_found, value_again}
use Rattle.text_blocks.specs.Instrs.{operands_at, address_at}

-- a mark, and what is read behind it
pub mark_step : {A : Type 0} (m : Mark) (p : List Name → List Sym → Option A) (s mid : Locals) (r : Option A) → plain (mark m) s mid → p mid.0 mid.1 ≡ r → (mark_at m s.1 >>= p s.0) ≡ r
mark_step m p s mid r h k = bind_again (mark_at m s.1) mid.1 (p s.0) r (mark_again m s.1 mid.1 h.1) (ap (λ ns. p ns mid.1) h.0 ∙ k)

-- what is found behind a mark
pub mark_finds : {A : Type 0} (m : Mark) (ns : List Name) (ts : List Sym) (p : List Sym → Option A) (R : A → Type 0) → ((rest : List Sym) → plain (mark m) (ns, ts) (ns, rest) → IfSome (p rest) R) → IfSome (mark_at m ts >>= p) R
mark_finds m ns ts p R k = bind_found (mark_at m ts) p (λ rest. mark m ts rest) R (mark_found m ts) (λ rest e. k rest (refl, e))

-- what is found of a list, by what is found of it behind its first element
pub after_finds : {A : Type 0} (x : A) (o : Option (List A × List Name × List Sym)) (Q R : List A × List Name × List Sym → Type 0) → IfSome o Q → ((r : List A × List Name × List Sym) → Q r → R (x ∷ r.0, r.1, r.2)) → IfSome (after (x ∷ []) o) R
after_finds x None Q R h k = tt
after_finds x (Some r) Q R h k = k r h

-- ---- two values with a comma between

pub operands_found : (ns : List Name) (ts : List Sym) → IfSome (operands_at ns ts) (λ r. (IsValue r.0.0 ⨾ comma ⨾ IsValue r.0.1) (ns, ts) (r.1, r.2))
unfolding operands_at
operands_found ns ts =
    bind_found (value_at ns ts) _ (λ r. IsValue r.0 (ns, ts) (r.1, r.2)) _ (value_found ns ts)
    (λ a h. mark_finds marks.Comma a.1 a.2 _ _ (λ rest c. bind_found (value_at a.1 rest) _ (λ r. IsValue r.0 (a.1, rest) (r.1, r.2)) _ (value_found a.1 rest)
    (λ b k. ((a.1, a.2), h, ((a.1, rest), c, k)))))

pub operands_again : (a b : Operand) (s end : Locals) → (IsValue a ⨾ comma ⨾ IsValue b) s end → operands_at s.0 s.1 ≡ Some ((a, b), end.0, end.1)
unfolding operands_at
operands_again a b s end h =
    bind_again (value_at s.0 s.1) (a, h.0.0, h.0.1) _ _ (value_again a s h.0 h.1)
    (mark_step marks.Comma (λ ns ts. value_at ns ts >>= λ r. Some ((a, r.0), r.1, r.2)) h.0 h.2.0 _ h.2.1
    (bind_again (value_at h.2.0.0 h.2.0.1) (b, end.0, end.1) _ _ (value_again b h.2.0 end h.2.2) refl))

-- ---- addresses

pub address_found : (ns : List Name) (ts : List Sym) → IfSome (address_at ns ts) (λ r. IsAddress r.0 (ns, ts) (r.1, r.2))
address_found ns (syms.Mark marks.Comma ∷ syms.Word words.Ptr ∷ ts) = value_there (value_at ns ts) (value_found ns ts)
  where
    value_there : (o : Option (Operand × List Name × List Sym)) → IfSome o (λ r. IsValue r.0 (ns, ts) (r.1, r.2)) → IfSome o (λ r. IsAddress r.0 (ns, syms.Mark marks.Comma ∷ syms.Word words.Ptr ∷ ts) (r.1, r.2))
    value_there None h = tt
    value_there (Some r) h = ((ns, ts), (refl, refl), h)
address_found ns _ = tt

pub address_again : (p : Operand) (s end : Locals) → IsAddress p s end → address_at s.0 s.1 ≡ Some (p, end.0, end.1)
address_again p s end h = ap (address_at s.0) h.1.1 ∙ ap (λ ns. value_at ns h.0.1) h.1.0 ∙ value_again p h.0 end h.2
