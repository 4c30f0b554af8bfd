-- The sizes of what a frame holds are numbers of 64 bits.
use Rattle.std.proofs.Common.{◌≡◌, ◌⊎◌, ⊎_elim, ℕ, zero, suc, ◌+◌, ◌-◌, ◌^◌, ◌<◌, ◌≤◌, Bool, true, false, List, [], ◌∷◌, ◌++◌, arith}
use Rattle.std.specs.List.{list_all}
use Rattle.std.specs.Prelude.{None, Option, Some, map, replicate, slice_set, if◌then◌else◌, ◌==◌, ◌||◌}
use Rattle.ir_laws.specs.facts.begin_order.Behind.{AreSizes}
use Rattle.ir_laws.specs.facts.counted.Widths.{has_width, is_width}
use Rattle.frame_contents.specs.Held.{held_blocks, held_instrs, held_params, held_phis, if_result, if_value, result_size, slot_held, value_held, value_size}
use Rattle.frame_contents.specs.declared.held.Holding.{Holding}
use Rattle.ir_laws.proofs.facts.Members.{each_behind}
use Rattle.ir_laws.proofs.facts.Truth.{equal_numbers, and_first, and_second}
use Rattle.ir_parts.specs.Contents.{arg_types, instr_types, result_of}
use Rattle.ir_laws.specs.ir_model.Layout.{size_of}
use Rattle.ir_laws.specs.ir_model.Ty.{Ty, array, int, named, ptr, structure, token}
use Rattle.ir_laws.specs.ir_model.declared.instr.Instr.{Instr}
use Rattle.ir_laws.specs.ir_model.declared.instr.Phi.{Phi}
use Rattle.ir_laws.specs.ir_model.declared.module.Block.{Block}
use Rattle.ir_laws.specs.ir_model.declared.module.Module.{Module}
use Rattle.ir_laws.specs.ir_model.declared.module.Param.{Param}
use Rattle.ir_laws.specs.run_laws.changed.Changed.{Each}
use Rattle.ir_laws.proofs.facts.Numbers.{min_small}
use Rattle.ir_laws.proofs.facts.names_apart.Words.{either as either_of}

is_low : (w n : ℕ) → n ≤ 64 → (w == n) ≡ true → w ≤ 64
is_low w n low e = let same : w ≡ n = equal_numbers w n e in omega (arith, low, same)

width_low : (w : ℕ) → is_width w ≡ true → w ≤ 64
width_low w e =
    ⊎_elim (is_low w 1 (omega arith))
    (λ a. ⊎_elim (is_low w 8 (omega arith)) (λ b. ⊎_elim (is_low w 16 (omega arith)) (λ c. ⊎_elim (is_low w 32 (omega arith)) (is_low w 64 (omega arith)) (either_of (w == 32) (w == 64) c)) (either_of (w == 16) ((w == 32) || (w == 64)) b)) (either_of (w == 8) ((w == 16) || ((w == 32) || (w == 64))) a))
    (either_of (w == 1) ((w == 8) || ((w == 16) || ((w == 32) || (w == 64)))) e)

value_small : (t : Ty) → has_width t ≡ true → value_size t < 2 ^ 64
value_small (int w) e = let low : w ≤ 64 = width_low w e in omega (arith, low)
value_small ptr e = omega arith
value_small token e = omega arith
value_small (array n t) e = omega arith
value_small (structure ts) e = omega arith
value_small (named n) e = omega arith

result_small : (i : Instr) → list_all has_width (instr_types i) ≡ true → result_size i < 2 ^ 64
result_small (Instr.Binary r op flags ty a b) e = value_small ty (and_first (has_width ty) true e)
result_small (Instr.Icmp r pred ty a b) e = omega arith
result_small (Instr.Select r c a b) e = value_small a.ty (and_first (has_width a.ty) (list_all has_width (b.ty ∷ [])) e)
result_small (Instr.Cast r op nneg a to) e = value_small to (and_first (has_width to) true (and_second (has_width a.ty) (list_all has_width (to ∷ [])) e))
result_small (Instr.Alloca r ty align) e = omega arith
result_small (Instr.Load r ty x align) e = value_small ty (and_first (has_width ty) true e)
result_small (Instr.Store a x align) e = omega arith
result_small (Instr.Gep r inbounds ty x args) e = omega arith
result_small (Instr.Call r must_tail None callee args) e = omega arith
result_small (Instr.Call r must_tail (Some ty) callee args) e = value_small ty (and_first (has_width ty) (list_all has_width (arg_types args)) e)

abbrev pub IsSmall : Holding → Type 0
IsSmall h = h.size < 2 ^ 64

one_small : (is_value : ℕ → Bool) (v size : ℕ) → size < 2 ^ 64 → Each IsSmall (if_value is_value v size)
one_small is_value v size low = on (is_value v)
  where
    on : (c : Bool) → Each IsSmall (if c then value_held v size ∷ [] else [])
    on true = (low, tt)
    on false = tt

option_small : (is_value : ℕ → Bool) (o : Option ℕ) (size : ℕ) → size < 2 ^ 64 → Each IsSmall (if_result is_value o size)
option_small is_value None size low = tt
option_small is_value (Some v) size low = one_small is_value v size low

pub params_small : (is_value : ℕ → Bool) (ps : List Param) → list_all has_width (map (λ (p : Param). p.ty) ps) ≡ true → Each IsSmall (held_params is_value ps)
params_small is_value [] e = tt
params_small is_value (p ∷ ps) e =
    let rest : Bool = list_all has_width (map (λ (q : Param). q.ty) ps) in
    each_behind IsSmall (if_value is_value p.name (value_size p.ty)) (held_params is_value ps) (one_small is_value p.name (value_size p.ty) (value_small p.ty (and_first (has_width p.ty) rest e))) (params_small is_value ps (and_second (has_width p.ty) rest e))

phis_small : (is_value : ℕ → Bool) (ps : List Phi) → Each (λ (p : Phi). has_width p.ty ≡ true) ps → Each IsSmall (held_phis is_value ps)
phis_small is_value [] h = tt
phis_small is_value (p ∷ ps) h = each_behind IsSmall (if_value is_value p.result (value_size p.ty)) (held_phis is_value ps) (one_small is_value p.result (value_size p.ty) (value_small p.ty h.0)) (phis_small is_value ps h.1)

module _ (m : Module) (promise : Option ℕ) (is_value is_slot : ℕ → Bool) where
  instrs_small : (is : List Instr) → Each (λ (i : Instr). list_all has_width (instr_types i) ≡ true) is → Each IsSmall (held_instrs m promise is_value is_slot is)
  instrs_small [] h = tt
  instrs_small (Instr.Alloca r ty align ∷ is) h = each_behind IsSmall (if is_slot r then slot_held m promise r ty align ∷ [] else []) (held_instrs m promise is_value is_slot is) (on (is_slot r)) (instrs_small is h.1)
    where
      on : (c : Bool) → Each IsSmall (if c then slot_held m promise r ty align ∷ [] else [])
      on true = (min_small (size_of m ty) (2 ^ 64 - 1), tt)
      on false = tt
  instrs_small (i ∷ is) h = each_behind IsSmall (if_result is_value (result_of i) (result_size i)) (held_instrs m promise is_value is_slot is) (option_small is_value (result_of i) (result_size i) (result_small i h.0)) (instrs_small is h.1)

  pub record HasWidths (b : Block) : Type 0 where
    pub phis : Each (λ (p : Phi). has_width p.ty ≡ true) b.phis
    pub instrs : Each (λ (i : Instr). list_all has_width (instr_types i) ≡ true) b.instrs

  pub blocks_small : (bs : List Block) → Each HasWidths bs → Each IsSmall (held_blocks m promise is_value is_slot bs)
  blocks_small [] h = tt
  blocks_small (b ∷ bs) h =
      each_behind IsSmall (held_phis is_value b.phis ++ held_instrs m promise is_value is_slot b.instrs) (held_blocks m promise is_value is_slot bs)
      (each_behind IsSmall (held_phis is_value b.phis) (held_instrs m promise is_value is_slot b.instrs) (phis_small is_value b.phis h.0.phis) (instrs_small b.instrs h.0.instrs)) (blocks_small bs h.1)

-- ---- the table

pub each_set : (xs : List ℕ) (n y : ℕ) → AreSizes xs → y < 2 ^ 64 → AreSizes (slice_set xs n y)
each_set [] n y h low = h
each_set (x ∷ xs) zero y h low = (low, h.1)
each_set (x ∷ xs) (suc n) y h low = (h.0, each_set xs n y h.1 low)

pub none_sized : (n : ℕ) → AreSizes (replicate n 0)
none_sized zero = tt
none_sized (suc n) = (omega arith, none_sized n)

pub all_behind : (xs ys : List Ty) → list_all has_width (xs ++ ys) ≡ true → list_all has_width ys ≡ true
all_behind [] ys e = e
all_behind (x ∷ xs) ys e = all_behind xs ys (and_second (has_width x) (list_all has_width (xs ++ ys)) e)
