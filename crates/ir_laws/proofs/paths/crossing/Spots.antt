-- Places of blocks, by what stands behind them.
use Rattle.std.proofs.Common.{◌≡◌, ◌⊎◌, inl, inr, ⊎_elim, ℕ, suc, ◌+◌, Bool, true, List, [], ◌∷◌, ◌++◌, length, refl, sym, ap, ◌∙◌, arith, append_assoc, length-append}
use Rattle.std.specs.Prelude.{Option, Some, None, slice_get, ◌==◌}
use Rattle.ir_laws.proofs.facts.Truth.{either, itself}
use Rattle.run_laws.specs.flow_solver.Paths.{IsListed}
use Rattle.run_laws.specs.ir_model.declared.instr.Instr.{Instr}
use Rattle.run_laws.specs.ir_model.declared.module.Block.{Block}
use Rattle.run_laws.specs.ir_model.declared.module.Function.{Function}
use Rattle.run_laws.specs.run_step.Step.{AtInstr, AtTerm, Nowhere, fetch, fetch_in, fetch_or}

-- a number is among others or not
pub listed_or : (v : ℕ) (xs : List ℕ) → IsListed v xs ⊎ (IsListed v xs → ⊥)
listed_or v [] = inr (λ h. h)
listed_or v (x ∷ xs) = ⊎_elim (λ e. inl (inl e)) (λ ne. ⊎_elim (λ l. inl (inr l)) (λ rest. inr (neither ne rest)) (listed_or v xs)) (either v x)
  where
    neither : (v ≡ x → ⊥) → (IsListed v xs → ⊥) → IsListed v (x ∷ xs) → ⊥
    neither ne rest (inl e) = ne e
    neither ne rest (inr l) = rest l

-- a place of a block of a function, and the instructions from there on
pub record Spot (h : Function) (q at : ℕ) (b : Block) (rest : List Instr) : Type 0 where
  pub got : slice_get h.blocks q ≡ Some b
  pub ahead : List Instr
  pub is : b.instrs ≡ ahead ++ rest
  pub long : length ahead ≡ at

get_there : (xs ys : List Instr) (y : Instr) → slice_get (xs ++ y ∷ ys) (length xs) ≡ Some y
get_there [] ys y = refl
get_there (x ∷ xs) ys y = get_there xs ys y

get_past : (xs : List Instr) → slice_get (xs ++ []) (length xs) ≡ None
get_past [] = refl
get_past (x ∷ xs) = get_past xs

long_all : (xs : List Instr) → length (xs ++ []) ≡ length xs
long_all [] = refl
long_all (x ∷ xs) = ap suc (long_all xs)

pub spot_first : (h : Function) (q : ℕ) (b : Block) → slice_get h.blocks q ≡ Some b → Spot h q 0 b b.instrs
spot_first h q b got = record { got = got; ahead = []; is = refl; long = refl }

pub spot_instr : (h : Function) (q at : ℕ) (b : Block) (i : Instr) (rest : List Instr) → Spot h q at b (i ∷ rest) → fetch h q at ≡ AtInstr i
spot_instr h q at b i rest s =
    let there : slice_get b.instrs at ≡ Some i = ap (slice_get b.instrs) (sym s.long) ∙ ap (λ (l : List Instr). slice_get l (length s.ahead)) s.is ∙ get_there s.ahead rest i in
    ap (λ (o : Option Block). fetch_in o at) s.got ∙ ap (λ (o : Option Instr). fetch_or o (at == length b.instrs) b.term) there

pub spot_term : (h : Function) (q at : ℕ) (b : Block) → Spot h q at b [] → fetch h q at ≡ AtTerm b.term
spot_term h q at b s =
    let past : slice_get b.instrs at ≡ None = ap (slice_get b.instrs) (sym s.long) ∙ ap (λ (l : List Instr). slice_get l (length s.ahead)) s.is ∙ get_past s.ahead in
    let same : at ≡ length b.instrs = sym s.long ∙ sym (long_all s.ahead) ∙ ap length (sym s.is) in
    let last : (at == length b.instrs) ≡ true = ap (λ (n : ℕ). n == length b.instrs) same ∙ itself (length b.instrs) in
    ap (λ (o : Option Block). fetch_in o at) s.got ∙ ap (λ (o : Option Instr). fetch_or o (at == length b.instrs) b.term) past ∙ ap (λ (t : Bool). fetch_or None t b.term) last

pub spot_next : (h : Function) (q at : ℕ) (b : Block) (i : Instr) (rest : List Instr) → Spot h q at b (i ∷ rest) → Spot h q (at + 1) b rest
spot_next h q at b i rest s =
    let more = length-append s.ahead (i ∷ []) in
    let long : length s.ahead ≡ at = s.long in
    record { got = s.got; ahead = s.ahead ++ i ∷ []; is = s.is ∙ sym (append_assoc s.ahead (i ∷ []) rest); long = omega (arith, more, long) }

pub nowhere : (h : Function) (q at : ℕ) → slice_get h.blocks q ≡ None → fetch h q at ≡ Nowhere
nowhere h q at e = ap (λ (o : Option Block). fetch_in o at) e
