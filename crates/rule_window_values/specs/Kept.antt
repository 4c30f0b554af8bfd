-- Rule K7: values made in windows and used behind them.
use Rattle.std.specs.Prelude.{ℕ, List, [], map, slice_get, IsTrue, Some, None, Option, ◌≡◌, ◌∷◌}
use Rattle.rule_uses.specs.flow_blocks.Edges.{block_edges}
use Rattle.ir_base.specs.declared.outcome.Place.{Place}
use Rattle.rule_uses.specs.Uses.{Use, local_of, uses_of, values_at}
use Rattle.flow_solver.specs.Paths.{IsListed}
use Rattle.ir_parts.specs.Contents.{result_of}
use Rattle.ir_parts.specs.Parts.{Part, OfInstr, OfPhi, parts_of}
use Rattle.ir_model.specs.Names.{position_of}
use Rattle.ir_model.specs.declared.instr.Incoming.{Incoming}
use Rattle.ir_model.specs.declared.instr.Instr.{Instr}
use Rattle.ir_model.specs.declared.instr.Phi.{Phi}
use Rattle.ir_model.specs.declared.module.Block.{Block}
use Rattle.ir_model.specs.declared.module.Function.{Function}
use Rattle.ir_paths.specs.Paths.{Leads}
use Rattle.ir_paths.specs.Windows.{IsInWindow, destroy_label, end_block, instr_at, resume_label, saves_of}
use Rattle.ir_paths.specs.declared.point.Point.{Point}
use Rattle.rule_shape.specs.rule_windows.First.{IsFirst}

-- ---- values made in a window

-- the first point of a block
abbrev pub front : ℕ → Point
front block = record { block = block; at = 0 }

-- the front of a block, where its phis stand, is in the window of a save with its suspend: the block's first point is in it, or is the suspend itself, to which a path leads from the save with neither between
pub data IsFrontIn (f : Function) (k s : Point) (block : ℕ) : Type 0 where
  Inside : IsInWindow f k s (front block) → IsFrontIn f k s block
  AtSuspend : front block ≡ s → Leads f (k ∷ s ∷ []) k s → IsFrontIn f k s block

abbrev pub phis_in : Option Block → List Phi
phis_in None = []
phis_in (Some b) = b.phis

abbrev pub phis_at : Function → ℕ → List Phi
phis_at f block = phis_in (slice_get f.blocks block)

abbrev pub phi_results : Function → ℕ → List ℕ
phi_results f block = map (λ p. p.result) (phis_at f block)

-- the value is made in the window: by an instruction in it, or by a phi of a block whose front is in it
pub data IsMadeIn (f : Function) (k s : Point) (v : ℕ) : Type 0 where
  ByInstr : (p : Point) (i : Instr) → IsInWindow f k s p → instr_at f p ≡ Some i → result_of i ≡ Some v → IsMadeIn f k s v
  ByPhi : (block : ℕ) → IsFrontIn f k s block → IsListed v (phi_results f block) → IsMadeIn f k s v

-- ---- uses behind a suspend

-- the blocks to which a suspend's own edges lead: of its resume and its destroy label
abbrev pub own_blocks : Function → Point → List ℕ
own_blocks f s = position_of f (resume_label f s) ∷ position_of f (destroy_label f s) ∷ []

-- A path of blocks leads to a block from the suspend's own resume or destroy edge, and no block on it before this one makes the value or is the end block.
pub data ReachesBehind (f : Function) (s : Point) (v : ℕ) : ℕ → Type 0 where
  Own : (block : ℕ) → IsListed block (own_blocks f s) → ReachesBehind f s v block
  Next : (from to : ℕ) → ReachesBehind f s v from → (IsListed v (values_at f from) → ⊥) → (from ≡ end_block f → ⊥) → IsListed (from, to) (block_edges f) → ReachesBehind f s v to

-- a phi of a block takes the value where the block of the label comes before
pub record TakesFrom (f : Function) (v from block : ℕ) : Type 0 where
  pub phi : Phi
  pub incoming : Incoming
  pub stands : IsListed phi (phis_at f block)
  pub comes : IsListed incoming phi.incoming
  pub is_from : position_of f incoming.from ≡ from
  pub takes : local_of incoming.value ≡ Some v

-- the value has a use behind the suspend: in a block to which such a path leads, which isn't the end block and doesn't make the value before, or of a phi on the suspend's own edge
pub data IsUsedBehind (func : ℕ) (f : Function) (s : Point) (v : ℕ) : Type 0 where
  InBlock : (u : Use) → IsListed u (uses_of func f) → u.value ≡ v → ReachesBehind f s v u.block → (IsListed v u.before → ⊥) → (u.block ≡ end_block f → ⊥) → IsUsedBehind func f s v
  OnEdge : (block : ℕ) → IsListed block (own_blocks f s) → TakesFrom f v s.block block → IsUsedBehind func f s v

-- ---- the rule

-- the value is made in the window of a save, and used behind its suspend
pub record IsKept (func : ℕ) (f : Function) (v : ℕ) : Type 0 where
  pub save : Point
  pub suspend : Point
  pub is_save : IsListed (save, suspend) (saves_of f)
  pub is_made : IsMadeIn f save suspend v
  pub is_used : IsUsedBehind func f suspend v

-- the value that a phi or another instruction makes
abbrev pub value_of : Part → Option ℕ
value_of (OfPhi p) = Some p.result
value_of (OfInstr i) = result_of i
value_of _ = None

pub record BreaksValue (func : ℕ) (f : Function) (x : Place × Part) : Type 0 where
  pub is_coroutine : IsTrue f.coroutine
  pub value : ℕ
  pub makes : value_of x.1 ≡ Some value
  pub is_kept : IsKept func f value

-- K7: a value made in the window of s has a use that a path reaches from s's own resume or destroy edge, with neither its definition nor the end block between
abbrev pub IsFirstKept : ℕ → Function → Option Place → Type 0
IsFirstKept func f o = IsFirst (BreaksValue func f) (λ x. x.0) (parts_of func f) o
