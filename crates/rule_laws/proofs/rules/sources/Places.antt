-- What stands at a place, by blocks.
use Rattle.std.proofs.Common.{◌≡◌, inl, inr, ℕ, Bool, true, false, List, [], ◌∷◌, length, Some, refl, sym, ap, ◌∙◌}
use Rattle.std.specs.List.{list_any}
use Rattle.std.specs.Prelude.{map, slice_get, ◌==◌, ◌||◌}
use Rattle.rule_uses.specs.Uses.{locals_in}
use Rattle.ir_laws.proofs.paths.renamed.Fits.{AnInstr, ATerm, Nothing, Stands, stands}
use Rattle.ir_laws.proofs.facts.Truth.{itself}
use Rattle.ir_laws.specs.flow_solver.Paths.{IsListed}
use Rattle.ir_laws.specs.ir_model.Names.{is_local}
use Rattle.ir_laws.specs.ir_model.declared.instr.Instr.{Instr}
use Rattle.ir_laws.specs.ir_model.declared.instr.Terminator.{Terminator}
use Rattle.ir_laws.specs.ir_model.declared.module.Block.{Block}
use Rattle.ir_laws.specs.ir_model.declared.module.Function.{Function}
use Rattle.ir_laws.specs.ir_model.declared.module.Param.{Param}
use Rattle.ir_laws.specs.ir_model.declared.operand.Operand.{Operand}
use Rattle.ir_laws.specs.ir_paths.Windows.{instr_at}
use Rattle.ir_laws.specs.ir_paths.declared.point.Point.{Point}
use Rattle.ir_laws.specs.run_step.Step.{AtInstr, AtTerm, Fetched, fetch}

abbrev pub point : ℕ → ℕ → Point
point block at = record { block = block; at = at }

pub instr_there : (f : Function) (block at : ℕ) (i : Instr) → fetch f block at ≡ AtInstr i → instr_at f (point block at) ≡ Some i
instr_there f block at i e = on (fetch f block at) (stands f (point block at)) e
  where
    on : (x : Fetched) → Stands f (point block at) x → x ≡ AtInstr i → instr_at f (point block at) ≡ Some i
    on _ Nothing d = absurd (cc)
    on _ (AnInstr j h) d = let same : j ≡ i = cc in h ∙ ap Some same
    on _ (ATerm b there last none) d = absurd (cc)

-- the terminator of a block, behind its instructions
pub record IsEnd (f : Function) (block at : ℕ) (t : Terminator) : Type 0 where
  pub own : Block
  pub got : slice_get f.blocks block ≡ Some own
  pub last : at ≡ length own.instrs
  pub is : own.term ≡ t

pub term_there : (f : Function) (block at : ℕ) (t : Terminator) → fetch f block at ≡ AtTerm t → IsEnd f block at t
term_there f block at t e = on (fetch f block at) (stands f (point block at)) e
  where
    on : (x : Fetched) → Stands f (point block at) x → x ≡ AtTerm t → IsEnd f block at t
    on _ Nothing d = absurd (cc)
    on _ (AnInstr j h) d = absurd (cc)
    on _ (ATerm b there last none) d = let same : b.term ≡ t = cc in record { own = b; got = there; last = last; is = same }

-- ---- locals among operands

pub any_local : (v : ℕ) (xs : List Operand) → IsListed v (locals_in xs) → list_any (is_local v) xs ≡ true
any_local v [] h = absurd h
any_local v (Operand.Local n ∷ xs) (inl e) = ap (λ (b : Bool). b || list_any (is_local v) xs) (ap (λ (k : ℕ). v == k) (sym e) ∙ itself v)
any_local v (Operand.Local n ∷ xs) (inr h) = later (v == n) (any_local v xs h)
  where
    later : (b : Bool) → list_any (is_local v) xs ≡ true → (b || list_any (is_local v) xs) ≡ true
    later true k = refl
    later false k = k
any_local v (Operand.Global n ∷ xs) h = any_local v xs h
any_local v (Operand.Number z ∷ xs) h = any_local v xs h
any_local v (Operand.True ∷ xs) h = any_local v xs h
any_local v (Operand.False ∷ xs) h = any_local v xs h
any_local v (Operand.Null ∷ xs) h = any_local v xs h
any_local v (Operand.None ∷ xs) h = any_local v xs h
any_local v (Operand.Poison ∷ xs) h = any_local v xs h

pub any_param : (v : ℕ) (ps : List Param) → IsListed v (map (λ p. p.name) ps) → list_any (λ p. p.name == v) ps ≡ true
any_param v [] h = absurd h
any_param v (p ∷ ps) (inl e) = ap (λ (b : Bool). b || list_any (λ q. q.name == v) ps) (ap (λ (k : ℕ). p.name == k) e ∙ itself p.name)
any_param v (p ∷ ps) (inr h) = later (p.name == v) (any_param v ps h)
  where
    later : (b : Bool) → list_any (λ q. q.name == v) ps ≡ true → (b || list_any (λ q. q.name == v) ps) ≡ true
    later true k = refl
    later false k = k
