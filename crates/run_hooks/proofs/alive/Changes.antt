-- What stays of a state where an activation comes or goes, an instance changes, or a block is entered.
use Rattle.std.proofs.Common.{◌≡◌, inl, inr, ℕ, zero, suc, Bool, true, false, List, [], ◌∷◌, length}
use Rattle.std.proofs.Common.{Option, Some, None, refl, sym, ap, ◌∙◌, subst, arith}
use Rattle.std.specs.List.{AllByRecursion, list_any}
use Rattle.std.specs.Prelude.{replicate, slice_get, slice_set, ◌==◌}
use Rattle.pass_renewed_proof.specs.ir_model.Names.{function_at, position_of}
use Rattle.pass_renewed_proof.specs.ir_model.declared.instr.Phi.{Phi}
use Rattle.pass_renewed_proof.specs.ir_model.declared.instr.Terminator.{Terminator}
use Rattle.pass_renewed_proof.specs.ir_model.declared.module.Function.{Function}
use Rattle.pass_renewed_proof.specs.ir_model.declared.module.Module.{Module}
use Rattle.pass_renewed_proof.specs.ir_model.declared.module.Param.{Param}
use Rattle.pass_renewed_proof.specs.ir_paths.Paths.{entry_point, has_point, nexts}
use Rattle.pass_renewed_proof.specs.ir_paths.declared.point.Point.{Point}
use Rattle.pass_renewed_proof.proofs.pass_kept_proof.Same.{neither}
use Rattle.pass_renewed_proof.specs.pass_kept_proof.Needed.{BranchesTo, phis_give}
use Rattle.pass_renewed_proof.proofs.Ahead.{branch_edge}
use Rattle.pass_renewed_proof.proofs.Left.{after_edge}
use Rattle.pass_renewed_proof.proofs.Sets.{result_elsewhere, set_elsewhere}
use Rattle.pass_renewed_proof.specs.SlotRules.{IsMadeOnce}
use Rattle.run_hooks.proofs.alive.Marks.{ended_on, held_on, runs_on, spot_is}
use Rattle.run_hooks.proofs.alive.Lives.{AreFewer, same_fewer}
use Rattle.run_hooks.proofs.alive.Moves.{IsOfOwn, fewer_for, fewer_instance, later_instance, longer_kept}
use Rattle.run_hooks.proofs.alive.Moves.{moved_in, moves_on, owned_of}
use Rattle.run_hooks.proofs.alive.Parts.{AllIn, AreKept, Here, IsLaterFor, IsMoved, IsSet, Other, WasThere, get_set}
use Rattle.run_hooks.proofs.alive.Parts.{in_any, later_all, later_in}
use Rattle.run_hooks.specs.Away.{point_in, spot_by}
use Rattle.run_hooks.specs.alive.Alive.{Account, AreAliveIn, GoesOn, IsAliveIn, IsAliveInstance, IsAliveState, IsApart}
use Rattle.run_hooks.specs.alive.Alive.{IsThere, KeepsAliveRules, MayLeave, Stays, account_of}
use Rattle.run_hooks.specs.alive.Slots.{IsSlotOf, Own}
use Rattle.pass_renewed_proof.specs.run_memory.declared.block.MemoryBlock.{MemoryBlock}
use Rattle.pass_renewed_proof.specs.run_memory.declared.pointer.Value.{Value}
use Rattle.pass_renewed_proof.specs.run_source.Source.{called, is_over}
use Rattle.pass_renewed_proof.specs.run_source.State.{is_finished}
use Rattle.pass_renewed_proof.specs.run_source.declared.state.Activation.{Activation}
use Rattle.pass_renewed_proof.specs.run_source.declared.state.Instance.{Instance}
use Rattle.pass_renewed_proof.specs.run_source.declared.state.Mode.{Mode}
use Rattle.pass_renewed_proof.specs.run_source.declared.state.State.{State}
use Rattle.pass_renewed_proof.specs.run_source.declared.state.Status.{Status}
use Rattle.pass_renewed_proof.specs.run_step.Step.{AtInstr, AtTerm, block_of, entry_values, fetch, incoming_from, phi_values, phis_of}
use Rattle.pass_renewed_proof.specs.run_step.Step.{values_in, with_all}
use Rattle.pass_renewed_proof.specs.run_step.Step.{with_params}
use Rattle.pass_renewed_proof.specs.run_step.Values.{Env, operand_value, value_in, with_result, with_value}

-- ---- values

unset : (n v : ℕ) → value_in (replicate n None) v ≡ Value.Poison
unset zero v = refl
unset (suc n) zero = refl
unset (suc n) (suc v) = unset n v

not_same : (a b : ℕ) → (a == b) ≡ false → a ≡ b → ⊥
not_same a b e h = grind arith

params_other : (env : Env) (params : List Param) (vs : List Value) (v : ℕ)
    → list_any (λ p. p.name == v) params ≡ false → value_in (with_params env params vs) v ≡ value_in env v
params_other env [] vs v e = refl
params_other env (p ∷ params) [] v e = refl
params_other env (p ∷ params) (w ∷ vs) v e =
    let n = neither (p.name == v) _ e in
    params_other (with_value env p.name w) params vs v n.1 ∙ set_elsewhere env p.name v w (not_same p.name v n.0)

-- a name that is no parameter has no value at the entry
pub entry_unset : (f : Function) (args : List Value) (v : ℕ) → IsMadeOnce f v
    → value_in (entry_values f args) v ≡ Value.Poison
entry_unset f args v made =
    params_other (replicate (length f.names) None) f.params args v made.no_param ∙ unset (length f.names) v

pub phis_other : (m : Module) (env : Env) (label : ℕ) (phis : List Phi) (now : Env) (v : ℕ) → phis_give v phis ≡ false
    → value_in (with_all now (phi_values m env label phis)) v ≡ value_in now v
phis_other m env label [] now v e = refl
phis_other m env label (p ∷ phis) now v e =
    let n = neither (p.result == v) _ e in
    let x = operand_value m env p.ty (incoming_from p.incoming label) in
    phis_other m env label phis (with_value now p.result x) v n.1 ∙ set_elsewhere now p.result v x
    (not_same p.result v n.0)

module _ (m : Module) (counts : ℕ → ℕ → Bool) where
  -- ---- the same in another stack

  pub restack : (k : Account) (stack others : List Activation) (i : ℕ) (x : Instance)
      → (x.status ≡ Status.Running → x.freed ≡ false → IsThere i stack → IsThere i others)
      → IsAliveInstance m counts k stack i x → IsAliveInstance m counts k others i x
  restack k stack others i x there o = record {
    owned = o.owned;
    shared = o.shared;
    over = o.over;
    met = o.met;
    asleep = o.asleep;
    running = λ e f. there e f (o.running e f);
  }

  -- ---- calls

  pub pushed : (t : State) (h : IsAliveState m counts t) (a : Activation)
      → IsAliveIn m counts (account_of h.tags t) (length (t.top ∷ t.below)) a → IsApart m a.result (t.top ∷ t.below)
      → IsAliveState m counts (record t { top = a; below = t.top ∷ t.below })
  pushed t h a own apart = record {
    tags = h.tags;
    stack = (own, apart, h.stack);
    instances = λ i x e. restack (account_of h.tags t) (t.top ∷ t.below) (a ∷ t.top ∷ t.below) i x
        (λ e f there. inr there)
        (h.instances i x e);
  }

  -- an activation that was called has no slots yet
  pub called_in : (k : Account) (depth func : ℕ) (args : List Value) (result : Option ℕ) (mode : Mode)
      → IsAliveIn m counts k depth (called m func args result mode)
  called_in k depth func args result mode = record {
    tagged = λ v b made e. absurd (never v b made e);
    past = λ v b made e z. absurd (never v b made e);
    owned = λ e. tt;
    early = λ e. tt;
    met = λ e. record { point = record { block = 0; at = 0 }; each = tt };
    stays = λ e. refl;
    goes = λ i x e. absurd (cc);
    ended = λ i x e. absurd (cc);
  }
    where
      never : (v b : ℕ) → IsMadeOnce (function_at m func) v
          → block_of (value_in (entry_values (function_at m func) args) v) ≡ Some b → ⊥
      never v b made e =
          let none : None ≡ Some b = sym (ap block_of (entry_unset (function_at m func) args v made)) ∙ e in cc

  -- ---- returns

  -- the topmost activation has no slots any more
  pub emptied : (s : State) (h : IsAliveState m counts s) (memory : List MemoryBlock)
      → AreFewer s.world.memory memory
      → IsAliveState m counts (record s {
        world = record s.world { memory = memory };
        top = record s.top { slots = [] };
      })
  emptied s h memory fewer = record {
    tags = h.tags;
    stack = (
      record {
        tagged = top.tagged;
        past = top.past;
        owned = λ e. tt;
        early = λ e. tt;
        met = λ e. record { point = record { block = 0; at = 0 }; each = tt };
        stays = top.stays;
        goes = λ i x ei ex g over. top.goes i x ei ex (same x g) over;
        ended = top.ended;
      },
      h.stack.1,
      later_all m counts k l s.below (in_any _ s.below (fewer_for m counts k memory fewer (owned_of m counts s h)))
          h.stack.2,
    );
    instances = λ i x e. later_instance m counts k l (s.top ∷ s.below) (record s.top { slots = [] } ∷ s.below) i x
        (longer_kept m counts k memory fewer.longer)
        (fewer_instance m counts k memory fewer (owned_of m counts s h) i x e) (λ there. there) (h.instances i x e);
  }
    where
      k : Account
      k = account_of h.tags s

      l : Account
      l = record (account_of h.tags s) { memory = memory }

      top : IsAliveIn m counts (record (account_of h.tags s) { memory = memory }) (length s.below) s.top
      top = later_in m counts (account_of h.tags s) (record (account_of h.tags s) { memory = memory })
          (length s.below) s.top (fewer_for m counts (account_of h.tags s) memory fewer (owned_of m counts s h)
          (length s.below) s.top) h.stack.0

      same : (x : Instance) → GoesOn (function_at m s.top.func) (length s.below) (record s.top { slots = [] }) x
          → GoesOn (function_at m s.top.func) (length s.below) s.top x
      same x (Stays e) = Stays e
      same x (MayLeave saved sleeps l d never) = MayLeave saved sleeps l d never

  -- where the topmost activation goes, the instance of one that hasn't left isn't Running
  pub popped : (s : State) (h : IsAliveState m counts s) (a : Activation) (below : List Activation)
      → s.below ≡ a ∷ below → (value : Value)
      → ((i : ℕ) (x : Instance) → s.top.instance ≡ Some i → slice_get s.instances i ≡ Some x
      → s.top.has_left ≡ false → x.status ≡ Status.Running → x.freed ≡ false → ⊥)
      → ((i : ℕ) (x : Instance) → a.instance ≡ Some i → slice_get s.instances i ≡ Some x → x.coroutine ≡ a.func)
      → IsAliveState m counts (record s {
        top = record a {
          values = with_result a.values s.top.result value;
        };
        below = below;
      })
  popped s h a below eb value never own = record {
    tags = h.tags;
    stack = (
      moved_in m counts (account_of h.tags s) (length below) a s.world.memory a.block a.at
          (with_result a.values s.top.result value) a.mode (omega arith) (record {
            names = λ v made. inl (result_elsewhere a.values s.top.result v value (λ e. parts.1 v e made));
            past = λ n was z. was z;
            held = λ home slot own now counted was.
                let old = was now in
                record {
                  start = old.start;
                  is_start = old.is_start;
                  path = old.path;
                  known = ap block_of (result_elsewhere a.values s.top.result slot.alloca value
                      (λ e. parts.1 slot.alloca e own.made)) ∙ old.known;
                };
            met = λ home slots own alive old. old;
            runs = λ r. r;
            after = λ r. r;
            behind = λ r. r;
          }) (λ i x ei ex. subst (λ (n : ℕ). AllByRecursion (IsSlotOf h.tags (length s.world.memory) (Own i)
          (function_at m n)) x.slots) (own i x ei ex) (h.instances i x ex).owned) parts.2,
      parts.3,
      parts.4,
    );
    instances = λ i x e. restack (account_of h.tags s) (s.top ∷ s.below)
        (record a { values = with_result a.values s.top.result value } ∷ below) i x
        (λ running kept. stays i x e running kept) (h.instances i x e);
  }
    where
      stays : (i : ℕ) (x : Instance) → slice_get s.instances i ≡ Some x → x.status ≡ Status.Running → x.freed ≡ false
          → IsThere i (s.top ∷ s.below)
          → IsThere i (record a { values = with_result a.values s.top.result value } ∷ below)
      stays i x ex running kept (inl z) = absurd (never i x z.0 ex z.1 running kept)
      stays i x ex running kept (inr z) = subst (IsThere i) eb z

      parts : (Unit {0}) × ((v : ℕ) → s.top.result ≡ Some v → IsMadeOnce (function_at m a.func) v → ⊥)
          × IsAliveIn m counts (account_of h.tags s) (length below) a × IsApart m a.result below
          × AreAliveIn m counts (account_of h.tags s) below
      parts =
          let apart : IsApart m s.top.result (a ∷ below) = subst (IsApart m s.top.result) eb h.stack.1 in
          let rest : AreAliveIn m counts (account_of h.tags s) (a ∷ below) =
          subst (AreAliveIn m counts (account_of h.tags s)) eb h.stack.2 in
          (tt, apart, rest.0, rest.1, rest.2)

  -- ---- a block is entered

  -- the topmost activation takes an edge
  pub entered : (s : State) (h : IsAliveState m counts s) → IsOfOwn s → (ramp_slots : List ℕ)
      → KeepsAliveRules (function_at m s.top.func) ramp_slots
      → ((from label : ℕ) → s.top.mode ≡ Mode.Entering from label → ⊥) → (t : Terminator)
      → fetch (function_at m s.top.func) s.top.block s.top.at ≡ AtTerm t → (label : ℕ)
      → BranchesTo label (fetch (function_at m s.top.func) s.top.block s.top.at) → (from : ℕ)
      → IsAliveState m counts (record s {
        top = record s.top {
          block = position_of (function_at m s.top.func) label;
          at = 0;
          values = values_in m
              (slice_get (function_at m s.top.func).blocks (position_of (function_at m s.top.func) label)) from
              s.top.values;
        };
      })
  entered s h own ramp_slots rules still t stands label branches from =
      moves_on m counts s h s.world (position_of f label) 0 _ s.top.mode (record {
        longer = omega arith;
        own = own;
        top = subst (λ (z : Point). IsMoved m counts (account_of h.tags s) (length s.below) s.top s.world.memory values
            z
            (spot_by f s.top.mode q) q) (sym (spot_is f s.top.mode p still))
            (subst (λ (z : Point). IsMoved m counts (account_of h.tags s) (length s.below) s.top s.world.memory values p
            z q)
            (sym (spot_is f s.top.mode q still)) core);
        below = in_any _ s.below (fewer_for m counts (account_of h.tags s) s.world.memory (same_fewer s.world.memory)
            (owned_of m counts s h));
        instances = fewer_instance m counts (account_of h.tags s) s.world.memory (same_fewer s.world.memory)
            (owned_of m counts s h);
      })
    where
      f : Function
      f = function_at m s.top.func

      p : Point
      p = point_in s.top

      q : Point
      q = entry_point (function_at m s.top.func) label

      values : Env
      values = values_in m
          (slice_get (function_at m s.top.func).blocks (position_of (function_at m s.top.func) label)) from
          s.top.values

      edge : has_point (nexts (function_at m s.top.func) (point_in s.top))
          (entry_point (function_at m s.top.func) label) ≡ true
      edge = (branch_edge (function_at m s.top.func) s.top.block s.top.at label branches).edge

      names : (v : ℕ) → IsMadeOnce (function_at m s.top.func) v → value_in values v ≡ value_in s.top.values v
      names v made = phis_other m s.top.values from
          (phis_of (slice_get (function_at m s.top.func).blocks (position_of (function_at m s.top.func) label)))
          s.top.values v (made.no_phi (position_of (function_at m s.top.func) label))

      core : IsMoved m counts (account_of h.tags s) (length s.below) s.top s.world.memory values (point_in s.top)
          (entry_point (function_at m s.top.func) label) (entry_point (function_at m s.top.func) label)
      core = record {
        names = λ v made. inl (names v made);
        past = λ n was z. absurd (rules.entry s.top.block s.top.at label branches z);
        held = λ home slot own now counted was. held_on (function_at m s.top.func) s.top.values values
            (point_in s.top) (entry_point (function_at m s.top.func) label) slot edge
            (λ mark. let no : AtTerm t ≡ AtInstr mark.instr = sym stands ∙ mark.stands in absurd (cc))
            (names slot.alloca own.made) (was now);
        met = λ home slots own alive old. old;
        runs = runs_on (function_at m s.top.func) (point_in s.top) (entry_point (function_at m s.top.func) label) edge
            (λ c. let no : AtTerm t ≡ AtInstr c.instr = sym stands ∙ c.stands in absurd (cc));
        after = ended_on (function_at m s.top.func) (point_in s.top) (entry_point (function_at m s.top.func) label)
            edge (λ c. let no : AtTerm t ≡ AtInstr c.instr = sym stands ∙ c.stands in absurd (cc));
        behind = λ w. after_edge (function_at m s.top.func) (point_in s.top)
            (entry_point (function_at m s.top.func) label) w edge;
      }

  -- ---- an instance changes

  same_kept : (k l : Account) → l.memory ≡ k.memory → l.tags ≡ k.tags → AreKept k l
  same_kept k l em et = record {
    longer = let e : length l.memory ≡ length k.memory = ap (λ (z : List MemoryBlock). length z) em in omega (arith, e);
    tags = λ b lt. ap (λ z. z b) et;
  }

  -- an instance is another one, and so is the topmost activation
  pub changed : (s : State) (h : IsAliveState m counts s) (i : ℕ) (x y : Instance) (a : Activation)
      → slice_get s.instances i ≡ Some x → a.result ≡ s.top.result
      → IsAliveIn m counts (record (account_of h.tags s) { instances = slice_set s.instances i y }) (length s.below) a
      → AllIn (IsLaterFor m counts (account_of h.tags s)
      (record (account_of h.tags s) { instances = slice_set s.instances i y })) s.below
      → IsAliveInstance m counts (record (account_of h.tags s) { instances = slice_set s.instances i y })
      (a ∷ s.below) i y
      → ((j : ℕ) (z : Instance) → (j ≡ i → ⊥) → slice_get s.instances j ≡ Some z → IsThere j (s.top ∷ s.below)
      → IsThere j (a ∷ s.below))
      → IsAliveState m counts (record s { instances = slice_set s.instances i y; top = a })
  changed s h i x y a there result top below own stays = record {
    tags = h.tags;
    stack = (
      top,
      subst (λ (r : Option ℕ). IsApart m r s.below) (sym result) h.stack.1,
      later_all m counts (account_of h.tags s)
          (record (account_of h.tags s) { instances = slice_set s.instances i y }) s.below below h.stack.2,
    );
    instances = λ j z e. on j z (get_set s.instances i y j z e);
  }
    where
      l : Account
      l = record (account_of h.tags s) { instances = slice_set s.instances i y }

      on : (j : ℕ) (z : Instance) → IsSet s.instances i y j z
          → IsAliveInstance m counts (record (account_of h.tags s) { instances = slice_set s.instances i y })
          (a ∷ s.below) j z
      on j z (Here ej ez) =
          subst (λ (n : ℕ). IsAliveInstance m counts l (a ∷ s.below) n z) (sym ej)
          (subst (λ (w : Instance). IsAliveInstance m counts l (a ∷ s.below) i w) (sym ez) own)
      on j z (Other ne e) =
          let old = h.instances j z e in
          record {
            owned = old.owned;
            shared = old.shared;
            over = old.over;
            met = old.met;
            asleep = λ u values w. let o = old.asleep u values w in record { tagged = o.tagged; alive = o.alive };
            running = λ w f. stays j z ne e (old.running w f);
          }

  -- one whose instance is the changed one, or is another
  pub others_later : (s : State) (h : IsAliveState m counts s) (i : ℕ) (y : Instance) (d : ℕ) (a : Activation)
      → (a.instance ≡ Some i → GoesOn (function_at m a.func) d a y
      → is_over y ≡ false → WasThere m counts (account_of h.tags s)
      (record (account_of h.tags s) { instances = slice_set s.instances i y }) d a i y)
      → (a.instance ≡ Some i → a.has_left ≡ false → is_finished y.status ≡ true
      → (x : Instance) × (slice_get s.instances i ≡ Some x)
      × (is_finished x.status ≡ true))
      → IsLaterFor m counts (account_of h.tags s)
      (record (account_of h.tags s) { instances = slice_set s.instances i y }) d a
  others_later s h i y d a goes ended = record {
    kept = record { longer = omega arith; tags = λ b lt. refl };
    early = λ e slot own now. now;
    goes = λ j z ej ez g over. on_goes j z ej g over (get_set s.instances i y j z ez);
    ended = λ j z ej ez left fin. on_ended j z ej left fin (get_set s.instances i y j z ez);
  }
    where
      k : Account
      k = account_of h.tags s

      l : Account
      l = record (account_of h.tags s) { instances = slice_set s.instances i y }

      on_goes : (j : ℕ) (z : Instance) → a.instance ≡ Some j → GoesOn (function_at m a.func) d a z
          → is_over z ≡ false → IsSet s.instances i y j z
          → WasThere m counts (account_of h.tags s)
          (record (account_of h.tags s) { instances = slice_set s.instances i y }) d a j z
      on_goes j z ej g over (Here e w) =
          subst (λ (n : ℕ). WasThere m counts k l d a n z) (sym e)
          (subst (λ (u : Instance). WasThere m counts k l d a i u) (sym w)
          (goes (ej ∙ ap Some e) (subst (λ (u : Instance). GoesOn (function_at m a.func) d a u) w g)
          (ap is_over (sym w) ∙ over)))
      on_goes j z ej g over (Other ne e) =
          record { old = z; there = e; goes = g; not_over = over; slots = λ values p t. t }

      on_ended : (j : ℕ) (z : Instance) → a.instance ≡ Some j → a.has_left ≡ false → is_finished z.status ≡ true
          → IsSet s.instances i y j z
          → (x : Instance) × (slice_get s.instances j ≡ Some x) × (is_finished x.status ≡ true)
      on_ended j z ej left fin (Here e w) =
          let r = ended (ej ∙ ap Some e) left (ap (λ (u : Instance). is_finished u.status) (sym w) ∙ fin) in
          (r.0, ap (slice_get s.instances) e ∙ r.1, r.2)
      on_ended j z ej left fin (Other ne e) = (z, e, fin)
