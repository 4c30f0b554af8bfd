-- Functions into which instructions are woven: some are put in, some go, the others stay with other operands in the place of theirs.
use Rattle.std.specs.Prelude.{◌≡◌, ℕ, Bool, true, false, not, List, [], length, Some, Option, option_to_list, ◌+◌, ◌<◌, ◌≤◌, ◌&&◌, ◌∷◌, ◌++◌, ◌==◌}
use Rattle.std.specs.List.{list_all}
use Rattle.ir_laws.specs.ir_base.declared.outcome.Place.{Place}
use Rattle.rule_uses.specs.Uses.{block_values, phi_values, values_at}
use Rattle.ir_laws.specs.flow_solver.Paths.{IsListed}
use Rattle.ir_parts.specs.Contents.{instr_operands, instr_types, result_of}
use Rattle.ir_parts.specs.Parts.{OfInstr}
use Rattle.ir_laws.specs.ir_model.Names.{position_of}
use Rattle.ir_laws.specs.ir_model.Ty.{Ty}
use Rattle.ir_laws.specs.ir_model.declared.instr.Instr.{Instr}
use Rattle.ir_laws.specs.ir_model.declared.module.Block.{Block}
use Rattle.ir_laws.specs.ir_model.declared.module.Function.{Function}
use Rattle.ir_laws.specs.ir_model.declared.module.Module.{Module}
use Rattle.ir_laws.specs.ir_model.declared.operand.Arg.{Arg}
use Rattle.ir_laws.specs.ir_model.declared.operand.Callee.{Callee}
use Rattle.ir_laws.specs.ir_model.declared.operand.Intrinsic.{Intrinsic}
use Rattle.ir_laws.specs.ir_model.declared.operand.Operand.{Operand}
use Rattle.rule_locals.specs.Extents.{breaks_extents}
use Rattle.rule_locals.specs.Markers.{is_marker}
use Rattle.rule_names.specs.Known.{knows_type}
use Rattle.ir_laws.specs.run_laws.changed.Changed.{Each}
use Rattle.rule_types.specs.Limits.{all_fit}
use Rattle.rule_types.specs.Signatures.{calls_otherwise}
use Rattle.rule_values.specs.Instrs.{fits_instr}
use Rattle.rule_values.specs.Kinds.{instr_kind}
use Rattle.ir_laws.specs.facts.woven_rules.Pairs.{Pairwise, times}
use Rattle.rule_laws.specs.rules.woven_rules.Parts.{InstrStays, PhiStays}
use Rattle.ir_laws.specs.facts.woven_rules.Parts.{TermStays}
use Rattle.rule_laws.specs.rules.woven_rules.Weaving.{IsInPlace, IsKnown, Weaving, goes_in, kinds_with}

-- ---- instructions that are put in

abbrev pub is_copy : Callee → Bool
is_copy (Callee.Intrinsic Intrinsic.MemcpyI64) = true
is_copy (Callee.Intrinsic Intrinsic.MemcpyI32) = true
is_copy _ = false

-- an alloca stands in the entry block, and nothing but copies is called
abbrev pub may_stand : ℕ → Instr → Bool
may_stand block (Instr.Alloca r ty align) = block == 0
may_stand block (Instr.Call r must_tail ty callee args) = not must_tail && is_copy callee
may_stand block _ = true

-- a new name of the kind that is told
pub record IsNew (w : Weaving) (i : Instr) (n : ℕ) : Type 0 where
  pub low : w.first ≤ n
  pub high : n < w.after
  pub kind : instr_kind i n ≡ w.kinds n

-- an instruction that may be put in, where a block of the result has made some values
pub record IsPutIn (w : Weaving) (m : Module) (f : Function) (block : ℕ) (made : List ℕ) (i : Instr) : Type 0 where
  pub result : (n : ℕ) → result_of i ≡ Some n → IsNew w i n
  pub operands : Each (IsKnown w f block made) (instr_operands i)
  pub stands : may_stand block i ≡ true
  pub fits : fits_instr m (kinds_with w f) i ≡ true
  pub types : list_all (knows_type m) (instr_types i) ≡ true
  pub depths : all_fit m (instr_types i) ≡ true
  pub extents : (p : Place) → breaks_extents w.stage m p i ≡ false
  pub calls : (p : Place) → calls_otherwise m p (OfInstr i) ≡ false

-- ---- those that go and those that stay

-- the value of what goes is no more
abbrev pub MayGo : Weaving → Instr → Type 0
MayGo w i = (n : ℕ) → result_of i ≡ Some n → w.goes n ≡ true

abbrev pub is_mark : Instr → Bool
is_mark (Instr.Call r must_tail ty callee args) = is_marker callee
is_mark i = false

-- a marker that stays is the same, and its slot stays
pub record MarkStays (w : Weaving) (i j : Instr) : Type 0 where
  pub same : j ≡ i
  pub slot : Each (λ x. goes_in w x ≡ false) (instr_operands i)

-- The instruction with operands in each other's place; a marker is the same; coro.id may lose its promise.
pub data Stays (w : Weaving) (f : Function) (made : List ℕ) : Instr → Instr → Type 0 where
  Kept : (i j : Instr) → InstrStays (IsInPlace w f made) i j → (is_mark i ≡ true → MarkStays w i j) → Stays w f made i j
  Unpromised : (r : Option ℕ) (must_tail : Bool) (ty : Option Ty) (a p : Arg) (args : List Arg) → Each (λ (b : Arg). goes_in w b.value ≡ false) (a ∷ args) → Stays w f made (Instr.Call r must_tail ty (Callee.Intrinsic Intrinsic.CoroId) (a ∷ p ∷ args)) (Instr.Call r must_tail ty (Callee.Intrinsic Intrinsic.CoroId) (a ∷ record p { value = Operand.Null } ∷ args))

-- ---- lists of instructions

-- Instructions with others put in, some gone and the others staying, by what the block of the result has made so far, the last first.
pub data WeavesAll (Puts : List ℕ → Instr → Type 0) (Goes : Instr → Type 0) (Remains : List ℕ → Instr → Instr → Type 0) : List ℕ → List Instr → List Instr → Type 0 where
  Done : (made : List ℕ) → WeavesAll Puts Goes Remains made [] []
  Put : (made : List ℕ) (j : Instr) (is js : List Instr) → Puts made j → WeavesAll Puts Goes Remains (option_to_list (result_of j) ++ made) is js → WeavesAll Puts Goes Remains made is (j ∷ js)
  Gone : (made : List ℕ) (i : Instr) (is js : List Instr) → Goes i → WeavesAll Puts Goes Remains made is js → WeavesAll Puts Goes Remains made (i ∷ is) js
  Remain : (made : List ℕ) (i j : Instr) (is js : List Instr) → Remains made i j → WeavesAll Puts Goes Remains (option_to_list (result_of j) ++ made) is js → WeavesAll Puts Goes Remains made (i ∷ is) (j ∷ js)

abbrev pub AreWoven : Weaving → Module → Function → ℕ → List ℕ → List Instr → List Instr → Type 0
AreWoven w m f block = WeavesAll (IsPutIn w m f block) (MayGo w) (Stays w f)

-- ---- blocks and functions; an operand of a phi stands at the end of the block from which it comes

pub record IsWovenBlock (w : Weaving) (m : Module) (f g : Function) (block : ℕ) (b c : Block) : Type 0 where
  pub label : c.label ≡ b.label
  pub phis : Pairwise (PhiStays (λ (from : ℕ). IsInPlace w f (values_at g (position_of g from)))) b.phis c.phis
  pub instrs : AreWoven w m f block (phi_values c) b.instrs c.instrs
  pub term : TermStays (IsInPlace w f (block_values c)) b.term c.term

pub data AreWovenBlocks (w : Weaving) (m : Module) (f g : Function) : ℕ → List Block → List Block → Type 0 where
  NoBlock : (block : ℕ) → AreWovenBlocks w m f g block [] []
  OneBlock : (block : ℕ) (b c : Block) (bs cs : List Block) → IsWovenBlock w m f g block b c → AreWovenBlocks w m f g (block + 1) bs cs → AreWovenBlocks w m f g block (b ∷ bs) (c ∷ cs)

-- how often blocks make a value
abbrev pub times_made : ℕ → List Block → ℕ
times_made n [] = 0
times_made n (b ∷ bs) = times n (block_values b) + times_made n bs

-- the values that stand at the front are new, and the entry block makes them
abbrev pub IsFront : Weaving → Function → ℕ → Type 0
IsFront w g n = (w.first ≤ n) × IsListed n (values_at g 0)

-- g is f with instructions woven in
pub record IsWoven (w : Weaving) (m : Module) (f g : Function) : Type 0 where
  pub name : g.name ≡ f.name
  pub result : g.result ≡ f.result
  pub params : g.params ≡ f.params
  pub coroutine : g.coroutine ≡ f.coroutine
  pub first : w.first ≡ length f.names
  pub after : w.after ≡ length g.names
  pub grows : w.first ≤ w.after
  pub blocks : AreWovenBlocks w m f g 0 f.blocks g.blocks
  pub fronts : Each (IsFront w g) w.fronts
  pub once : (n : ℕ) → w.first ≤ n → times_made n g.blocks ≤ 1
