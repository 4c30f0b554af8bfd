-- What is asked of the offsets of slots, so that a function whose slots become bytes of the frame breaks no rule.
use Rattle.std.specs.Prelude.{◌≡◌, ℕ, Bool, true, false, not, List, [], length, slice_get, Some, None, Option, unwrap_or, ◌^◌, ◌<◌, ◌≤◌}
use Rattle.pass_edges_proof.specs.rule_uses.Undefined.{IsUndefined}
use Rattle.pass_edges_proof.specs.rule_uses.Uses.{Use, uses_of}
use Rattle.pass_addresses.specs.Placing.{is_none, without_markers, without_promise}
use Rattle.ir_model.specs.declared.module.Function.{Function}
use Rattle.pass_edges_proof.specs.run_laws.changed.Changed.{Each}
use Rattle.pass_edges_proof.specs.rule_values.Kinds.{value_kind}
use Rattle.pass_edges_proof.specs.rule_values.declared.kinds.Kind.{Kind}
use Rattle.pass_edges_proof.specs.rule_laws.rules.woven_rules.Weaving.{Weaving}
use Rattle.pass_edges_proof.specs.rule_names.declared.stage.Stage.{Stage}

-- the name is that of a slot in the frame
abbrev pub lies_in_frame : List (Option ℕ) → ℕ → Bool
lies_in_frame offsets v = not (is_none (unwrap_or (slice_get offsets v) None))

-- the function without the markers and the promise that go
abbrev pub left_over : List Bool → Function → Function
left_over marked f = without_promise (without_markers marked f)

-- where a slot in the frame is used, each path from the entry has made begin's value
abbrev pub HasBegin : Function → ℕ → List (Option ℕ) → Use → Type 0
HasBegin f begin offsets u = lies_in_frame offsets u.value ≡ true → IsUndefined f (record u { value = begin }) → ⊥

-- Begin's value is a pointer that lies in no frame; what lies in the frame are pointers, each used behind begin, and none of them is
-- flagged, so no marker of one stays.
pub record AddressesFit (k : ℕ) (f : Function) (begin : ℕ) (offsets : List (Option ℕ)) (marked : List Bool) : Type 0 where
  pub sized : length offsets ≤ length f.names
  pub pointer : value_kind f begin ≡ Some Kind.Ptr
  pub outside : lies_in_frame offsets begin ≡ false
  pub slots : (v d : ℕ) → slice_get offsets v ≡ Some (Some d) → value_kind f v ≡ Some Kind.Ptr
  pub near : (v d : ℕ) → slice_get offsets v ≡ Some (Some d) → d < 2 ^ 64
  pub unmarked : (v : ℕ) → unwrap_or (slice_get marked v) false ≡ true → lies_in_frame offsets v ≡ false
  pub behind : Each (HasBegin (left_over marked f) begin offsets) (uses_of k (left_over marked f))

-- no name is new, and some go
abbrev pub turning_weaving : Function → (ℕ → Bool) → Weaving
turning_weaving f goes = record { stage = Stage.Source; first = length f.names; after = length f.names; kinds = λ n. None; fronts = []; goes = goes }
