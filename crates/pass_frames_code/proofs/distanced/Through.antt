-- What sums a distance is arithmetic and loads, and then a store.
use Rattle.std.proofs.Common.{◌≡◌, ℕ, ◌+◌, ◌<◌, ◌≤◌, Bool, true, false, List, [], ◌∷◌, ◌++◌, refl, sym, subst, arith}
use Rattle.std.specs.Prelude.{None, Option, Some, pos, if◌then◌else◌}
use Rattle.pass_proofs.specs.ir_base.declared.ops.BinOp.{BinOp}
use Rattle.pass_proofs.specs.ir_base.declared.ops.CastOp.{CastOp}
use Rattle.pass_proofs.proofs.ir_laws.facts.Members.{each_joined, each_turns}
use Rattle.pass_proofs.specs.ir_model.Ty.{int}
use Rattle.pass_proofs.specs.ir_model.declared.instr.Instr.{Instr}
use Rattle.pass_proofs.specs.ir_model.declared.module.Module.{Module}
use Rattle.pass_proofs.specs.ir_model.declared.operand.Arg.{Arg}
use Rattle.pass_proofs.specs.ir_model.declared.operand.Operand.{Operand}
use Rattle.pass_proofs.specs.ir_parts.Contents.{result_of}
use Rattle.pass_proofs.specs.pass_distances.Sums.{distance_instrs, distance_next, is_wide, on_number, start_instrs, start_value, sum_instrs, sum_next, sum_value, way_instrs, widened, widening}
use Rattle.pass_proofs.specs.pass_distances.declared.way.Way.{Way}
use Rattle.pass_frames_code.proofs.stepping.Calm.{IsCalm, IsWoven, calm_last}
use Rattle.pass_frames_code.specs.Led.{IsNotSet, RunsThrough}
use Rattle.pass_frames_code.specs.Lined.{GivesNone}
use Rattle.pass_proofs.specs.pass_front.Front.{is_no_alloca}
use Rattle.pass_proofs.specs.run_laws.access.Lines.{Runs}
use Rattle.pass_proofs.specs.run_laws.changed.Changed.{Each}
use Rattle.pass_proofs.specs.run_step.Step.{Context, Work}

-- ---- each instruction of a sum

-- it is arithmetic, and sets a name from one on and below another
pub record IsSummed (n m : ℕ) (j : Instr) : Type 0 where
  pub calm : IsCalm j
  pub sets : (r : ℕ) → result_of j ≡ Some r → (n ≤ r) × (r < m)

wide_by : (n m : ℕ) (a : Arg) → n < m → (b : Bool)
    → Each (IsSummed n m) (if b then [] else Instr.Cast n CastOp.Sext false a (int 64) ∷ [])
wide_by n m a lt true = tt
wide_by n m a lt false = (
  record {
    calm = tt;
    sets = λ r e. let same : n ≡ r = cc in (omega (arith, same), omega (arith, same, lt));
  },
  tt,
)

number_summed : (n m r : ℕ) (op : BinOp) (x y : Operand) → n ≤ r → r < m → IsSummed n m (on_number r op x y)
number_summed n m r op x y le lt = record {
  calm = tt;
  sets = λ u e. let same : r ≡ u = cc in (omega (arith, same, le), omega (arith, same, lt));
}

way_summed : (n m : ℕ) (x : Operand) (w : Way) → n + 3 ≤ m → Each (IsSummed n m) (way_instrs n x w)
way_summed n m x (Way.Bytes bytes) le =
    (number_summed n m (n + 2) BinOp.Add x (Operand.Number (pos bytes)) (omega arith) (omega (arith, le)), tt)
way_summed n m x (Way.Elements a size) le =
    each_joined (IsSummed n m) (widening n a)
    (on_number (n + 1) BinOp.Mul (widened n a) (Operand.Number (pos size))
    ∷ on_number (n + 2) BinOp.Add x (Operand.Local (n + 1)) ∷ [])
    (wide_by n m a (omega (arith, le)) (is_wide a.ty)) (
      number_summed n m (n + 1) BinOp.Mul (widened n a) (Operand.Number (pos size)) (omega arith) (omega (arith, le)),
      (number_summed n m (n + 2) BinOp.Add x (Operand.Local (n + 1)) (omega arith) (omega (arith, le)), tt),
    )

pub sum_rises : (n : ℕ) (ws : List Way) → n ≤ sum_next n ws
sum_rises n [] = omega arith
sum_rises n (w ∷ ws) = let more = sum_rises (n + 3) ws in omega (arith, more)

lower : (n k m : ℕ) (j : Instr) → n ≤ k → IsSummed k m j → IsSummed n m j
lower n k m j le h = record {
  calm = h.calm;
  sets = λ r e. let z = h.sets r e in (let a = z.0 in omega (arith, a, le), z.1);
}

sum_summed : (n : ℕ) (x : Operand) (ws : List Way) → Each (IsSummed n (sum_next n ws)) (sum_instrs n x ws)
sum_summed n x [] = tt
sum_summed n x (w ∷ ws) =
    let up : n + 3 ≤ sum_next (n + 3) ws = sum_rises (n + 3) ws in
    each_joined (IsSummed n (sum_next (n + 3) ws)) (way_instrs n x w)
    (sum_instrs (n + 3) (Operand.Local (n + 2)) ws) (way_summed n (sum_next (n + 3) ws) x w up)
    (each_turns (IsSummed (n + 3) (sum_next (n + 3) ws)) (IsSummed n (sum_next (n + 3) ws))
    (λ j h. lower n (n + 3) (sum_next (n + 3) ws) j (omega arith) h)
    (sum_instrs (n + 3) (Operand.Local (n + 2)) ws) (sum_summed (n + 3) (Operand.Local (n + 2)) ws))

-- ---- the line

-- what stands before its store
abbrev pub summing : ℕ → Option ℕ → List Way → List Instr
summing n from ws = start_instrs n from ++ sum_instrs (n + 1) (start_value n from) ws

pub summing_is : (n : ℕ) (from : Option ℕ) (ws : List Way)
    → Each (IsSummed n (distance_next n ws)) (summing n from ws)
summing_is n from ws =
    each_joined (IsSummed n (distance_next n ws)) (start_instrs n from) (sum_instrs (n + 1) (start_value n from) ws)
    (start from)
    (each_turns (IsSummed (n + 1) (distance_next n ws)) (IsSummed n (distance_next n ws))
    (λ j h. lower n (n + 1) (distance_next n ws) j (omega arith) h) (sum_instrs (n + 1) (start_value n from) ws)
    (sum_summed (n + 1) (start_value n from) ws))
  where
    start : (o : Option ℕ) → Each (IsSummed n (distance_next n ws)) (start_instrs n o)
    start None = tt
    start (Some cell) = (
      record {
        calm = tt;
        sets = λ r e.
            let same : n ≡ r = cc in
            let up : n + 1 ≤ distance_next n ws = sum_rises (n + 1) ws in
            (omega (arith, same), omega (arith, same, up));
      },
      tt,
    )

abbrev pub last_store : ℕ → Option ℕ → ℕ → List Way → Instr
last_store n from cell ws =
    Instr.Store (record { ty = int 64; value = sum_value (n + 1) (start_value n from) ws }) (Operand.Local cell) 8

pub distance_is : (n : ℕ) (from : Option ℕ) (cell : ℕ) (ws : List Way)
    → distance_instrs n from cell ws ≡ summing n from ws ++ (last_store n from cell ws ∷ [])
distance_is n None cell ws = refl
distance_is n (Some from) cell ws = refl

-- on the way the world is as it was
pub distance_through : (c : Context) (P : Work → Type 0) (y : Work) → ((u : Work) → u.world ≡ y.world → P u)
    → (n : ℕ) (from : Option ℕ) (cell : ℕ) (ws : List Way) (w x : Work) → w.world ≡ y.world
    → Runs c (distance_instrs n from cell ws) w x → RunsThrough c P (distance_instrs n from cell ws) w x
distance_through c P y holds n from cell ws w x e r =
    subst (λ (line : List Instr). RunsThrough c P line w x) (sym (distance_is n from cell ws))
    (calm_last c P y holds (summing n from ws) (last_store n from cell ws) w x
    (each_turns (IsSummed n (distance_next n ws)) IsCalm (λ j h. h.calm) (summing n from ws) (summing_is n from ws)) e
    (subst (λ (line : List Instr). Runs c line w x) (distance_is n from cell ws) r))

-- ---- what holds of each instruction

calm_woven : (j : Instr) → IsCalm j → IsWoven j
calm_woven (Instr.Load r ty p align) h = tt
calm_woven (Instr.Gep r inbounds ty p indices) h = tt
calm_woven (Instr.Binary r op flags ty a b) h = tt
calm_woven (Instr.Cast r op nneg a to) h = tt
calm_woven (Instr.Icmp r pred ty a b) h = absurd h
calm_woven (Instr.Select r x a b) h = absurd h
calm_woven (Instr.Alloca r ty align) h = absurd h
calm_woven (Instr.Store a p align) h = absurd h
calm_woven (Instr.Call r must_tail ty callee args) h = absurd h

pub woven_no_alloca : (j : Instr) → IsWoven j → is_no_alloca j ≡ true
woven_no_alloca (Instr.Load r ty p align) h = refl
woven_no_alloca (Instr.Gep r inbounds ty p indices) h = refl
woven_no_alloca (Instr.Binary r op flags ty a b) h = refl
woven_no_alloca (Instr.Cast r op nneg a to) h = refl
woven_no_alloca (Instr.Store a p align) h = refl
woven_no_alloca (Instr.Icmp r pred ty a b) h = absurd h
woven_no_alloca (Instr.Select r x a b) h = absurd h
woven_no_alloca (Instr.Alloca r ty align) h = absurd h
woven_no_alloca (Instr.Call r must_tail ty callee args) h = absurd h

pub woven_gives : (m : Module) (j : Instr) → IsWoven j → GivesNone m j
woven_gives m (Instr.Load r ty p align) h = refl
woven_gives m (Instr.Gep r inbounds ty p indices) h = refl
woven_gives m (Instr.Binary r op flags ty a b) h = refl
woven_gives m (Instr.Cast r op nneg a to) h = refl
woven_gives m (Instr.Store a p align) h = refl
woven_gives m (Instr.Icmp r pred ty a b) h = absurd h
woven_gives m (Instr.Select r x a b) h = absurd h
woven_gives m (Instr.Alloca r ty align) h = absurd h
woven_gives m (Instr.Call r must_tail ty callee args) h = absurd h

pub distance_each : (P : Instr → Type 0) → (n : ℕ) (from : Option ℕ) (cell : ℕ) (ws : List Way)
    → ((j : Instr) → IsSummed n (distance_next n ws) j → P j)
    → P (last_store n from cell ws) → Each P (distance_instrs n from cell ws)
distance_each P n from cell ws one last =
    subst (Each P) (sym (distance_is n from cell ws))
    (each_joined P (summing n from ws) (last_store n from cell ws ∷ [])
    (each_turns (IsSummed n (distance_next n ws)) P one (summing n from ws) (summing_is n from ws)) (last, tt))

pub distance_woven : (n : ℕ) (from : Option ℕ) (cell : ℕ) (ws : List Way)
    → Each IsWoven (distance_instrs n from cell ws)
distance_woven n from cell ws =
    distance_each IsWoven n from cell ws (λ j h. calm_woven j h.calm) tt

-- no name above is set
pub distance_unset : (k n : ℕ) (from : Option ℕ) (cell : ℕ) (ws : List Way) → distance_next n ws ≤ k
    → Each (IsNotSet k) (distance_instrs n from cell ws)
distance_unset k n from cell ws le =
    distance_each (IsNotSet k) n from cell ws
    (λ j h e. let z = (h.sets k e).1 in omega (arith, z, le)) (λ e. absurd (cc))
