-- Two functions in which the same stands at the same places, but that what stands at a place of the one may stand one further on in the other, behind an instruction of the other's own.
use Rattle.std.proofs.Common.{◌≡◌, ℕ, ◌+◌, ◌⊎◌, Some, refl, sym, subst, ◌↔◌}
use Rattle.rule_uses.specs.Undefined.{params_of}
use Rattle.rule_uses.specs.Uses.{locals_in}
use Rattle.ir_laws.specs.flow_solver.Paths.{IsListed}
use Rattle.ir_parts.specs.Contents.{ending_operands, instr_operands, result_of}
use Rattle.ir_laws.specs.ir_model.Names.{position_of}
use Rattle.ir_laws.specs.ir_model.declared.instr.Instr.{Instr}
use Rattle.ir_laws.specs.ir_model.declared.module.Function.{Function}
use Rattle.ir_laws.specs.ir_paths.Paths.{targets}
use Rattle.ir_laws.specs.ir_paths.Windows.{destroy_label, end_block, resume_label}
use Rattle.ir_laws.specs.run_step.Step.{Fetched, Nowhere, AtInstr, AtTerm, fetch}
use Rattle.frame_contents.specs.frame_crossing.EdgeUses.{IsUsedOn}
use Rattle.frame_contents.specs.frame_crossing.Paths.{BranchesTo, phis_at, used_by}

-- both make the value and use it, or neither does, and both lead on alike
abbrev pub IsAlike : ℕ → Fetched → Fetched → Type 0
IsAlike v Nowhere Nowhere = Unit {0}
IsAlike v (AtInstr i) (AtInstr j) = (result_of i ≡ Some v ↔ result_of j ≡ Some v) × (IsListed v (locals_in (instr_operands i)) ↔ IsListed v (locals_in (instr_operands j)))
IsAlike v (AtTerm t) (AtTerm u) = (targets u ≡ targets t) × (IsListed v (locals_in (ending_operands t)) ↔ IsListed v (locals_in (ending_operands u)))
IsAlike v _ _ = ⊥

-- an instruction stands there that makes the value where another does
pub record IsMaking (v : ℕ) (i : Instr) (x : Fetched) : Type 0 where
  pub instr : Instr
  pub is : x ≡ AtInstr instr
  pub makes : result_of i ≡ Some v ↔ result_of instr ≡ Some v

pub instr_forth : (v : ℕ) (x y : Fetched) → IsAlike v x y → (i : Instr) → x ≡ AtInstr i → IsMaking v i y
instr_forth v x y h i e = on y (subst (λ (z : Fetched). IsAlike v z y) e h)
  where
    on : (y : Fetched) → IsAlike v (AtInstr i) y → IsMaking v i y
    on Nowhere h = absurd h
    on (AtInstr j) h = record { instr = j; is = refl; makes = h.0 }
    on (AtTerm u) h = absurd h

pub instr_home : (v : ℕ) (x y : Fetched) → IsAlike v x y → (j : Instr) → y ≡ AtInstr j → IsMaking v j x
instr_home v x y h j e = on x (subst (λ (z : Fetched). IsAlike v x z) e h)
  where
    on : (x : Fetched) → IsAlike v x (AtInstr j) → IsMaking v j x
    on Nowhere h = absurd h
    on (AtInstr i) h = record { instr = i; is = refl; makes = (h.0.1, h.0.0) }
    on (AtTerm t) h = absurd h

pub branches_alike : (v label : ℕ) (x y : Fetched) → IsAlike v x y → BranchesTo label x ↔ BranchesTo label y
branches_alike v label Nowhere Nowhere h = ((λ k. k), (λ k. k))
branches_alike v label (AtInstr i) (AtInstr j) h = ((λ k. k), (λ k. k))
branches_alike v label (AtTerm t) (AtTerm u) h = (subst (IsListed label) (sym h.0), subst (IsListed label) h.0)
branches_alike v label _ _ h = absurd h

pub uses_alike : (v : ℕ) (x y : Fetched) → IsAlike v x y → IsListed v (used_by x) ↔ IsListed v (used_by y)
uses_alike v Nowhere Nowhere h = ((λ k. k), (λ k. k))
uses_alike v (AtInstr i) (AtInstr j) h = h.1
uses_alike v (AtTerm t) (AtTerm u) h = h.1
uses_alike v _ _ h = absurd h

-- an instruction stands there that neither makes nor uses the value
pub record IsOther (v : ℕ) (x : Fetched) : Type 0 where
  pub instr : Instr
  pub is : x ≡ AtInstr instr
  pub makes_not : result_of instr ≡ Some v → ⊥
  pub uses_not : IsListed v (locals_in (instr_operands instr)) → ⊥

-- where of a block of g what stands in f at a place begins, and where it stands itself
abbrev pub IsAt : (ℕ → ℕ → ℕ) → (ℕ → ℕ → ℕ) → ℕ → ℕ → ℕ → Type 0
IsAt front back b x at = (x ≡ front b at) ⊎ (x ≡ back b at)

pub record IsOneOn (g : Function) (front back : ℕ → ℕ → ℕ) (v b at : ℕ) : Type 0 where
  pub behind : back b at ≡ front b at + 1
  pub other : IsOther v (fetch g b (front b at))

-- a place of f, of which this is the front or the back
pub record IsOfPlace (front back : ℕ → ℕ → ℕ) (b x : ℕ) : Type 0 where
  pub at : ℕ
  pub is_at : IsAt front back b x at

-- the two functions are alike, so far as the value goes
pub record AreAlike (f g : Function) (front back : ℕ → ℕ → ℕ) (v : ℕ) : Type 0 where
  pub first : (b : ℕ) → front b 0 ≡ 0
  pub next : (b at : ℕ) → front b (at + 1) ≡ back b at + 1
  pub within : (b at : ℕ) → (front b at ≡ back b at) ⊎ IsOneOn g front back v b at
  pub stands : (b at : ℕ) → IsAlike v (fetch f b at) (fetch g b (back b at))
  pub backs : (b at to : ℕ) → back b at ≡ back b to → at ≡ to
  pub fronts : (b at to : ℕ) → front b at ≡ back b to → at ≡ to
  pub found : (b x : ℕ) (j : Instr) → fetch g b x ≡ AtInstr j → IsOfPlace front back b x
  pub position : (label : ℕ) → position_of g label ≡ position_of f label
  pub end : end_block g ≡ end_block f
  pub phis : (b : ℕ) → IsListed v (phis_at f b) ↔ IsListed v (phis_at g b)
  pub params : params_of g ≡ params_of f
  pub edges : (from to : ℕ) → IsUsedOn f v from to ↔ IsUsedOn g v from to
  pub resumes : (b at : ℕ) → resume_label g (record { block = b; at = back b at }) ≡ resume_label f (record { block = b; at = at })
  pub destroys : (b at : ℕ) → destroy_label g (record { block = b; at = back b at }) ≡ destroy_label f (record { block = b; at = at })
