-- Names are stored into their cells one after another.
use Rattle.std.proofs.Common.{◌≡◌, ⊎_elim, ℕ, zero, suc, List, [], ◌∷◌, ◌++◌, refl, sym, ap, ◌∙◌, subst}
use Rattle.std.specs.Prelude.{None, Some}
use Rattle.pass_proofs.proofs.ir_laws.facts.Members.{each_joined, each_turns}
use Rattle.pass_proofs.proofs.ir_laws.facts.Truth.{is_number}
use Rattle.pass_proofs.specs.ir_model.Ty.{Ty, int}
use Rattle.pass_proofs.specs.pass_cells.Kept.{entry}
use Rattle.pass_proofs.specs.pass_cells.Written.{stored as stored_by}
use Rattle.pass_frames_code.proofs.lines.Filled.{over_joined, over_none}
use Rattle.pass_frames_code.proofs.lines.Results.{result_stored}
use Rattle.pass_frames_code.specs.Framings.{IsFraming}
use Rattle.pass_frames_code.specs.Lines.{HasOwnBlocks, IsStorable, LeavesCellsBut, at_work}
use Rattle.pass_frames_code.specs.Places.{Framing, plan}
use Rattle.pass_frames_code.specs.Related.{AreCellsRight}
use Rattle.pass_frames_code.specs.Stores.{AreNamesStored, IsNameGiven, stored_all}
use Rattle.pass_proofs.proofs.run_laws.transfer.Sets.{set_elsewhere}
use Rattle.pass_proofs.specs.run_laws.changed.Changed.{Each}
use Rattle.pass_proofs.specs.run_laws.memory.Pointers.{Home, IsValue}
use Rattle.pass_proofs.specs.run_laws.memory.Standing.{AreByteRights}
use Rattle.pass_proofs.specs.run_memory.declared.pointer.Value.{Value}
use Rattle.pass_proofs.specs.run_source.declared.state.Activation.{Activation}
use Rattle.pass_proofs.specs.run_step.Step.{Context, Work, with_all}
use Rattle.pass_proofs.specs.run_step.Values.{Env, access_of, stored, value_in, with_value}

-- a name that is set has its value, or the names end before it
pub set_or_none : (P : Value → Type 0) (env : Env) (v : ℕ) (u : Value) → P u → P Value.Poison
    → P (value_in (with_value env v u) v)
set_or_none P [] v u h none = none
set_or_none P (y ∷ env) zero u h none = h
set_or_none P (y ∷ env) (suc v) u h none = set_or_none P env v u h none

poison_stored : (ty : Ty) → stored (access_of ty) Value.Poison ≡ Value.Poison
poison_stored (int w) = refl
poison_stored _ = refl

module _ (x : Framing) (is : IsFraming x) (homes : List Home) (c : Context) (law : AreByteRights c.rights)
    (a : Activation) (n : ℕ) (own : HasOwnBlocks a) where
  abbrev AreRight : Env → Work → Type 0
  AreRight env w = AreCellsRight x homes c.rights w.world.memory env (at_work a w)

  -- one name
  module _ (old : Env) (w : Work) (q : ℕ × Value) (g : IsNameGiven x homes w q) (right : AreRight old w) where
    abbrev env : Env
    env = with_value old q.0 q.1

    one : LeavesCellsBut x homes c w a env q.0 n (stored_by (plan x) q.0)
    one =
        result_stored x is homes c law old env a w q.0 n own g.no_root
        (λ u d. set_elsewhere old q.0 u q.1 (λ e. d (sym e)))
        (set_or_none (λ (u : Value). IsValue homes u (value_in w.values q.0)) old q.0 q.1 g.stands tt)
        (λ k kept. set_or_none (IsStorable k.ty) old q.0 q.1 (g.storable k kept) (poison_stored k.ty)) right

    right_behind : AreRight env one.work
    right_behind = record {
      values = one.right.values;
      distances = λ u cell slot e root. ⊎_elim
          (λ (same : u ≡ q.0).
          let none : None ≡ Some cell = sym g.no_distance ∙ ap (entry (plan x).cells) (sym same) ∙ e in absurd (cc))
          (λ d. one.right.distances u cell slot d e root) (is_number u q.0);
    }

    given_behind : (p : ℕ × Value) → IsNameGiven x homes w p → IsNameGiven x homes one.work p
    given_behind p h = record {
      stands = subst (λ (z : Env). IsValue homes p.1 (value_in z p.0)) (sym one.values) h.stands;
      storable = h.storable;
      no_root = h.no_root;
      no_distance = h.no_distance;
    }

  pub names_stored : (qs : List (ℕ × Value)) (old : Env) (w : Work) → Each (IsNameGiven x homes w) qs → AreRight old w
      → AreNamesStored x homes c w a (with_all old qs) n (stored_all (plan x) qs)
  names_stored [] old w h right =
      record { work = w; spans = []; over = over_none c n w; values = refl; inside = tt; right = right }
  names_stored (q ∷ qs) old w h right =
      let s = one old w q h.0 right in
      let r = names_stored qs (env old w q h.0 right) s.work
      (each_turns (IsNameGiven x homes w) (IsNameGiven x homes s.work) (given_behind old w q h.0 right) qs h.1)
      (right_behind old w q h.0 right) in
      record {
        work = r.work;
        spans = s.spans ++ r.spans;
        over = over_joined c (stored_by (plan x) q.0) (stored_all (plan x) qs) n s.spans r.spans w s.work r.work
            s.over r.over;
        values = r.values ∙ s.values;
        inside = each_joined _ s.spans r.spans s.inside r.inside;
        right = r.right;
      }
