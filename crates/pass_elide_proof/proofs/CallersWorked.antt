-- The worked caller destroys its handle, and the worked run comes to the places at which callers are kept.
use Rattle.std.proofs.Common.{Bool, List, Option, [], ap, arith, false, inl, inr, length, refl, subst, suc, sym, true, zero, ℕ, ◌&&◌, ◌+◌, ◌<◌, ◌==◌, ◌||◌, ◌∙◌, ◌∷◌, ◌≡◌, ◌⊎◌}
use Rattle.std.specs.Prelude.{IsFalse, None, Some, codes, option_and_then, pos, slice_get}
use Rattle.elide_sites.specs.Sites.{IsDestroyed, ends_use}
use Rattle.pass_elide.specs.declared.given.GivenFrame.{GivenFrame}
use Rattle.pass_elide_proof.specs.Callers.{GivesOnce, GoesOnward, HaveBlocks, KeepsHandles, MarksNoFrame, MaySaveAt, MovesOn, StandsAtDone, StandsAtEnd, StandsAtInstr, WakesByEdge}
use Rattle.pass_elide_proof.specs.CallersStack.{AreCalled, GivesBegin, KeepAllHandles, ReturnsApart, ReturnsFrame, StandsAtRet}
use Rattle.pass_elide_proof.specs.Elision.{function_in, rooms}
use Rattle.pass_elide_proof.specs.Edges.{phis_at}
use Rattle.pass_elide_proof.specs.Invariant.{IsSiteOf}
use Rattle.pass_elide_proof.specs.Places.{instrs_of, room_at}
use Rattle.pass_elide_proof.specs.CallersWorked.{summed, the_sum}
use Rattle.pass_elide_proof.specs.Worked.{a_caller, a_coroutine, after, the_elision}
use Rattle.pass_proofs.proofs.ir_laws.facts.Truth.{equal_numbers}
use Rattle.pass_proofs.specs.ir_base.declared.name.Name.{Name}
use Rattle.pass_proofs.specs.ir_model.declared.instr.Instr.{Instr}
use Rattle.pass_proofs.specs.ir_model.declared.instr.Phi.{Phi}
use Rattle.pass_proofs.specs.ir_model.declared.instr.Terminator.{Terminator}
use Rattle.pass_proofs.specs.ir_model.declared.module.Block.{Block}
use Rattle.pass_proofs.specs.ir_model.declared.operand.Arg.{Arg}
use Rattle.pass_proofs.specs.ir_model.declared.operand.Callee.{Callee}
use Rattle.pass_proofs.specs.ir_model.declared.operand.Intrinsic.{Intrinsic}
use Rattle.pass_proofs.specs.ir_model.declared.operand.Operand.{Operand}
use Rattle.pass_proofs.specs.ir_model.Ty.{int, ptr, token}
use Rattle.pass_proofs.specs.ir_parts.Contents.{result_of}
use Rattle.pass_proofs.specs.ir_paths.Paths.{IsPath, has_point}
use Rattle.pass_proofs.specs.ir_paths.Windows.{instr_at}
use Rattle.pass_proofs.specs.ir_paths.declared.point.Point.{Point}
use Rattle.pass_proofs.specs.run_laws.changed.Changed.{Each}
use Rattle.pass_proofs.specs.run_memory.declared.pointer.Value.{Value}
use Rattle.pass_proofs.specs.run_source.State.{frame_address_of}
use Rattle.pass_proofs.specs.run_source.declared.state.Instance.{Instance}
use Rattle.pass_proofs.specs.run_source.declared.state.Mode.{Mode}
use Rattle.pass_proofs.specs.run_step.Values.{pointer_to, value_in}
use Rattle.elide_shape.specs.Edges.{edges_of}
use Rattle.elide_shape.specs.declared.edges.Edge.{Edge}
use Rattle.elide_sites.specs.Destroyed.{IsOn, Start, Step, has_at, is_stop, starts}
use Rattle.elide_sites.specs.declared.destroyed.Way.{Way}
use Rattle.pass_elide_proof.proofs.CallersInstr.{goes_as, instr_moves, was_itself}
use Rattle.pass_proofs.specs.flow_solver.Paths.{IsListed}
use Rattle.pass_proofs.specs.ir_model.Names.{position_of}
use Rattle.pass_proofs.specs.ir_paths.Windows.{destroy_label}
use Rattle.pass_proofs.specs.run_source.State.{is_finished, settled}
use Rattle.pass_proofs.specs.run_source.declared.state.Status.{Status}
use Rattle.pass_proofs.specs.run_framed.Framed.{begin_name}
use Rattle.pass_proofs.specs.run_source.declared.state.Activation.{Activation}

-- ---- names of the caller

abbrev at_point : ℕ → ℕ → Point
at_point block at = record { block = block; at = at }

none_gives : (v : ℕ) → None ≡ Some v → ⊥
none_gives v e = cc

record IsFirst (block at v : ℕ) : Type 0 where
  block_is : block ≡ 0
  at_is : at ≡ 0
  name : 1 ≡ v

gives_first : (block at : ℕ) (i : Instr) (v : ℕ) → instr_at a_caller (at_point block at) ≡ Some i
    → result_of i ≡ Some v → IsFirst block at v
gives_first zero zero i v there gives =
    let same : Some 1 ≡ result_of i = ap (λ (o : Option Instr). option_and_then result_of o) there in
    record { block_is = refl; at_is = refl; name = one 1 v (same ∙ gives) }
  where
    one : (a b : ℕ) → Some a ≡ Some b → a ≡ b
    one a b e = cc
gives_first zero (suc zero) i v there gives =
    absurd (none_gives v (ap (λ (o : Option Instr). option_and_then result_of o) there ∙ gives))
gives_first zero (suc (suc zero)) i v there gives =
    absurd (none_gives v (ap (λ (o : Option Instr). option_and_then result_of o) there ∙ gives))
gives_first zero (suc (suc (suc at))) i v there gives = absurd (cc)
gives_first (suc block) at i v there gives = absurd (cc)

caller_once : GivesOnce a_caller
caller_once = record {
  alone = λ p q i j v at to gives too.
      let first = gives_first p.block p.at i v at gives in
      let second = gives_first q.block q.at j v to too in
      (first.block_is ∙ sym second.block_is, first.at_is ∙ sym second.at_is);
  names = λ p i v at gives.
      let first = gives_first p.block p.at i v at gives in
      subst (λ (n : ℕ). n < 2) first.name (omega arith);
  phis = λ p i v at gives block. no_phis v block;
  phi_names = λ block. few_phis block;
}
  where
    no_phis : (v block : ℕ) → Each (λ (x : Phi). x.result ≡ v → ⊥) (phis_at a_caller block)
    no_phis v zero = tt
    no_phis v (suc block) = tt

    few_phis : (block : ℕ) → Each (λ (x : Phi). x.result < 2) (phis_at a_caller block)
    few_phis zero = tt
    few_phis (suc block) = tt

-- ---- its site

site_first : (block at : ℕ) (i : Instr) (name : ℕ) (call : Point) → call ≡ at_point block at
    → IsSiteOf the_elision 1 call i name → (block ≡ 0) × (at ≡ 0)
site_first zero zero i name call is site = (refl, refl)
site_first zero (suc zero) i name call is site =
    absurd (let no : None ≡ Some (GivenFrame.Alloca site.size site.align)
    = (λ j. room_at (rooms the_elision 1) a_caller (sym is j).block (sym is j).at i) ∙ site.room in cc)
site_first zero (suc (suc zero)) i name call is site =
    absurd (let no : None ≡ Some (GivenFrame.Alloca site.size site.align)
    = (λ j. room_at (rooms the_elision 1) a_caller (sym is j).block (sym is j).at i) ∙ site.room in cc)
site_first zero (suc (suc (suc at))) i name call is site =
    absurd (let no : None ≡ Some i
    = (λ j. slice_get (instrs_of a_caller (sym is j).block) (sym is j).at) ∙ site.there in cc)
site_first (suc block) at i name call is site =
    absurd (let no : None ≡ Some i
    = (λ j. slice_get (instrs_of a_caller (sym is j).block) (sym is j).at) ∙ site.there in cc)

-- ---- where its handle is held

one_of : (p : Point) (block at : ℕ) → has_point (at_point block at ∷ []) p ≡ true → p ≡ at_point block at
one_of p block at is = by (p.block == block) (p.at == at) refl refl is
  where
    by : (a b : Bool) → (p.block == block) ≡ a → (p.at == at) ≡ b → ((a && b) || false) ≡ true → p ≡ at_point block at
    by true true first second is =
        λ j. record { block = equal_numbers p.block block first j; at = equal_numbers p.at at second j }
    by true false first second is = absurd (cc)
    by false b first second is = absurd (cc)

abbrev destroyed_at : List Point
destroyed_at = at_point 0 2 ∷ []

from_second : (p : Point) (between : List Point) → IsPath a_caller destroyed_at (at_point 0 1) between p
    → p ≡ at_point 0 2
from_second p [] path = one_of p 0 2 path
from_second p (v ∷ between) path =
    let same = one_of v 0 2 path.0 in
    absurd (let no : true ≡ false = (λ j. has_point destroyed_at (sym same j)) ∙ path.1 in cc)

from_call : (p : Point) (between : List Point) → IsPath a_caller destroyed_at (at_point 0 0) between p
    → (p ≡ at_point 0 1) ⊎ (p ≡ at_point 0 2)
from_call p [] path = inl (one_of p 0 1 path)
from_call p (v ∷ between) path =
    let same = one_of v 0 1 path.0 in
    inr (from_second p between (subst (λ (q : Point). IsPath a_caller destroyed_at q between p) same path.2))

first_destroyed : IsDestroyed a_caller (at_point 0 0)
first_destroyed = record {
  before = λ p reached.
      let start : reached.start ≡ at_point 0 0 = one_of reached.start 0 0 reached.is_start in
      by p (from_call p reached.path.between
      (subst (λ (q : Point). IsPath a_caller destroyed_at q reached.path.between p) start reached.path.is_path));
}
  where
    by : (p : Point) → (p ≡ at_point 0 1) ⊎ (p ≡ at_point 0 2) → IsFalse (ends_use a_caller (at_point 0 0) p)
    by p (inl is) = λ j. ends_use a_caller (at_point 0 0) (is j)
    by p (inr is) = λ j. ends_use a_caller (at_point 0 0) (is j)

caller_keeps : KeepsHandles the_elision 1
caller_keeps = record {
  once = caller_once;
  destroyed = λ call i name site.
      let at = site_first call.block call.at i name call refl site in
      subst (IsDestroyed a_caller) (λ j. at_point (sym at.0 j) (sym at.1 j)) first_destroyed;
}

-- ---- all functions

pub worked_handles : KeepAllHandles the_elision
worked_handles zero plain = absurd (cc)
worked_handles (suc zero) plain = caller_keeps
worked_handles (suc (suc func)) plain = record {
  once = record {
    alone = λ p q i j v at to gives too. absurd (cc);
    names = λ p i v at gives. absurd (cc);
    phis = λ p i v at gives block. tt;
    phi_names = λ block. tt;
  };
  destroyed = λ call i name site. absurd (let no = site.there in cc);
}

-- ---- rets of the coroutine

pub worked_returns : ReturnsFrame a_coroutine
worked_returns = record { each = by }
  where
    same : (a b : Option Arg) → Terminator.Ret a ≡ Terminator.Ret b → a ≡ b
    same a b e = cc

    block_is : (a b : Block) → Some a ≡ Some b → a.term ≡ b.term
    block_is a b e = let is : a ≡ b = cc in ap (λ (x : Block). x.term) is

    by : (at : ℕ) (b : Block) (value : Option Arg) → slice_get a_coroutine.blocks at ≡ Some b
        → b.term ≡ Terminator.Ret value → GivesBegin a_coroutine value
    by zero b value there term = absurd (let no = block_is _ b there ∙ term in cc)
    by (suc zero) b value there term =
        absurd (let no = block_is _ b there ∙ term in cc)
    by (suc (suc zero)) b value there term =
        absurd (let no = block_is _ b there ∙ term in cc)
    by (suc (suc (suc zero))) b value there term =
        absurd (let no = block_is _ b there ∙ term in cc)
    by (suc (suc (suc (suc zero)))) b value there term =
        absurd (let no = block_is _ b there ∙ term in cc)
    by (suc (suc (suc (suc (suc zero))))) b value there term =
        absurd (let no = block_is _ b there ∙ term in cc)
    by (suc (suc (suc (suc (suc (suc zero)))))) b value there term =
        absurd (let no = block_is _ b there ∙ term in cc)
    by (suc (suc (suc (suc (suc (suc (suc zero))))))) b value there term =
        absurd (let no = block_is _ b there ∙ term in cc)
    by (suc (suc (suc (suc (suc (suc (suc (suc zero)))))))) b value there term =
        absurd (let no = block_is _ b there ∙ term in cc)
    by (suc (suc (suc (suc (suc (suc (suc (suc (suc zero))))))))) b value there term =
        absurd (let no = block_is _ b there ∙ term in cc)
    by (suc (suc (suc (suc (suc (suc (suc (suc (suc (suc zero)))))))))) b value there term =
        subst (GivesBegin a_coroutine) (same (Some (record { ty = ptr; value = Operand.Local 9 })) value
        (block_is _ b there ∙ term)) (9, refl, refl)
    by (suc (suc (suc (suc (suc (suc (suc (suc (suc (suc (suc at))))))))))) b value there term = absurd (cc)

-- ---- the worked run

-- the caller stands at its resume, and then at its destroy
pub worked_resume : StandsAtInstr the_elision (after 21) 1
    (Instr.Call None false None (Callee.Intrinsic Intrinsic.CoroResume)
    (record { ty = ptr; value = Operand.Local 1 } ∷ []))
worked_resume = record {
  runs = refl;
  there = refl;
  stands = refl;
  none = refl;
  handles = λ plain. caller_keeps;
}

pub worked_destroy : StandsAtInstr the_elision (after 38) 2
    (Instr.Call None false None (Callee.Intrinsic Intrinsic.CoroDestroy)
    (record { ty = ptr; value = Operand.Local 1 } ∷ []))
worked_destroy = record {
  runs = refl;
  there = refl;
  stands = refl;
  none = refl;
  handles = λ plain. caller_keeps;
}

-- the ramp, which was given its frame, stands at its ret
pub worked_ret : StandsAtRet the_elision (after 20)
worked_ret = record {
  runs = refl;
  block = record {
    label = 14;
    phis = [];
    instrs = (Instr.Call (Some 17) false (Some (int 1)) (Callee.Intrinsic Intrinsic.CoroEnd)
        (record { ty = ptr; value = Operand.Local 9 } ∷ record { ty = int 1; value = Operand.False }
        ∷ record { ty = token; value = Operand.None } ∷ [])) ∷ [];
    term = Terminator.Ret (Some (record { ty = ptr; value = Operand.Local 9 }));
  };
  has_block = refl;
  stands = refl;
  value = Some (record { ty = ptr; value = Operand.Local 9 });
  term = refl;
  called = λ is. absurd (cc);
  mode = λ from label is. absurd (cc);
  frames = λ frame is. worked_returns;
}

abbrev address_at : Option Instance → Value
address_at None = Value.Poison
address_at (Some x) = frame_address_of x

-- its caller waits behind the call, and it has begun in the caller's alloca
pub worked_called : AreCalled the_elision (after 20)
worked_called = record {
  calls = (
    inr (record {
      call = at_point 0 0;
      instr = Instr.Call (Some 1) false (Some ptr) (Callee.Named (Name.Text (codes "g")))
          (record { ty = int 32; value = Operand.Number (pos 4) } ∷ []);
      there = refl;
      stands = record { block = refl; at = refl };
      result = refl;
      room = λ v is. let same : 1 ≡ v = one 1 v is in subst (λ (n : ℕ). n < 3) same (omega arith);
      given = λ name site. λ j. Mode.GivenRamp (value_in (after 1).top.values (sym site.is_name j));
    }),
    tt,
  );
  begun = (
    record {
      frame = λ frame number x mode own there.
          let first : 0 ≡ number = one 0 number own in
          sym (given frame mode)
          ∙ ((λ j. address_at (slice_get (after 20).instances (first j))) ∙ ap address_at there);
      value = λ frame number v mode own is.
          let name : 9 ≡ v = one 9 v is in
          (λ j. value_in (after 20).top.values (sym name j)) ∙ given frame mode;
    },
    (
      record {
        frame = λ frame number x mode own there. absurd (cc);
        value = λ frame number v mode own is. absurd (cc);
      },
      tt,
    ),
  );
}
  where
    one : (a b : ℕ) → Some a ≡ Some b → a ≡ b
    one a b e = cc

    given : (frame : Value) → Mode.GivenRamp (pointer_to 0) ≡ Mode.GivenRamp frame → pointer_to 0 ≡ frame
    given frame is = cc

-- ---- blocks of the coroutine behind its destroy edge

abbrev Behind : ℕ → Type 0
Behind b = (b ≡ 8) ⊎ ((b ≡ 9) ⊎ (b ≡ 10))

too_low : (b n : ℕ) → Behind b → b ≡ n → n < 8 → ⊥
too_low b n (inl is) same lt = absurd (omega (arith, is, same, lt))
too_low b n (inr (inl is)) same lt = absurd (omega (arith, is, same, lt))
too_low b n (inr (inr is)) same lt = absurd (omega (arith, is, same, lt))

starts_behind : (b : ℕ) → IsListed b (starts Way.Destroyed (edges_of a_coroutine)) → Behind b
unfolding edges_of
starts_behind b (inl is) = inl is
starts_behind b (inr none) = absurd none

edge_behind : (x : Edge) → Behind x.from → IsListed x (edges_of a_coroutine) → Behind x.to
unfolding edges_of
edge_behind x from (inl is) =
    absurd (too_low x.from 0 from (ap (λ (y : Edge). y.from) is) (omega arith))
edge_behind x from (inr (inl is)) =
    absurd (too_low x.from 0 from (ap (λ (y : Edge). y.from) is) (omega arith))
edge_behind x from (inr (inr (inl is))) =
    absurd (too_low x.from 1 from (ap (λ (y : Edge). y.from) is) (omega arith))
edge_behind x from (inr (inr (inr (inl is)))) =
    absurd (too_low x.from 2 from (ap (λ (y : Edge). y.from) is) (omega arith))
edge_behind x from (inr (inr (inr (inr (inl is))))) =
    absurd (too_low x.from 3 from (ap (λ (y : Edge). y.from) is) (omega arith))
edge_behind x from (inr (inr (inr (inr (inr (inl is)))))) =
    absurd (too_low x.from 4 from (ap (λ (y : Edge). y.from) is) (omega arith))
edge_behind x from (inr (inr (inr (inr (inr (inr (inl is))))))) =
    absurd (too_low x.from 5 from (ap (λ (y : Edge). y.from) is) (omega arith))
edge_behind x from (inr (inr (inr (inr (inr (inr (inr (inl is)))))))) =
    absurd (too_low x.from 6 from (ap (λ (y : Edge). y.from) is) (omega arith))
edge_behind x from (inr (inr (inr (inr (inr (inr (inr (inr (inl is))))))))) =
    absurd (too_low x.from 6 from (ap (λ (y : Edge). y.from) is) (omega arith))
edge_behind x from (inr (inr (inr (inr (inr (inr (inr (inr (inr (inl is)))))))))) =
    absurd (too_low x.from 6 from (ap (λ (y : Edge). y.from) is) (omega arith))
edge_behind x from (inr (inr (inr (inr (inr (inr (inr (inr (inr (inr (inl is))))))))))) =
    absurd (too_low x.from 7 from (ap (λ (y : Edge). y.from) is) (omega arith))
edge_behind x from (inr (inr (inr (inr (inr (inr (inr (inr (inr (inr (inr (inl is)))))))))))) =
    inr (inl (ap (λ (y : Edge). y.to) is))
edge_behind x from (inr (inr (inr (inr (inr (inr (inr (inr (inr (inr (inr (inr (inl is))))))))))))) =
    inr (inr (ap (λ (y : Edge). y.to) is))
edge_behind x from (inr (inr (inr (inr (inr (inr (inr (inr (inr (inr (inr (inr (inr none))))))))))))) = absurd none

on_behind : (b : ℕ) → IsOn Way.Destroyed a_coroutine b → Behind b
on_behind _ (Start b listed) = starts_behind b listed
on_behind _ (Step x led listed passes) = edge_behind x (on_behind x.from led) listed

never_stops : (b : ℕ) → IsOn Way.Destroyed a_coroutine b → IsFalse (has_at is_stop a_coroutine b)
never_stops b led = by (on_behind b led)
  where
    by : Behind b → IsFalse (has_at is_stop a_coroutine b)
    by (inl is) = λ j. has_at is_stop a_coroutine (is j)
    by (inr (inl is)) = λ j. has_at is_stop a_coroutine (is j)
    by (inr (inr is)) = λ j. has_at is_stop a_coroutine (is j)

destroy_first : IsListed 8 (starts Way.Destroyed (edges_of a_coroutine))
unfolding edges_of
destroy_first = inl refl

-- ---- more places of the worked run

abbrev finished_at : Option Instance → Bool
finished_at None = true
finished_at (Some x) = is_finished x.status

-- at its save the ramp's instance runs
pub worked_save : MaySaveAt the_elision (after 16)
worked_save = record {
  inside = refl;
  mode = λ from label is. absurd (cc);
  goes = λ x is. sym (ap finished_at is);
  still = never_stops;
}

abbrev point_in : Status → Option Point
point_in Status.Running = None
point_in (Status.Suspended q values) = Some q
point_in Status.Finished = None

abbrev sleeps_at : Option Instance → Option Point
sleeps_at None = None
sleeps_at (Some x) = point_in x.status

abbrev coroutine_of : Option Instance → ℕ
coroutine_of None = 0
coroutine_of (Some x) = x.coroutine

-- at the destroy the one instance sleeps at its suspend
pub worked_edges : WakesByEdge the_elision (after 38)
worked_edges zero x q values there is =
    let asleep : Some (at_point 6 7) ≡ Some q = ap sleeps_at there ∙ ap point_in is in
    let same : at_point 6 7 ≡ q = one (at_point 6 7) q asleep in
    let func : 0 ≡ x.coroutine = ap coroutine_of there in
    subst (λ (p : ℕ × Point). IsOn Way.Destroyed (function_in the_elision p.0) (position_of (function_in the_elision
    p.0) (destroy_label (function_in the_elision p.0) p.1))) (λ j. (func j, same j)) (Start 8 destroy_first)
  where
    one : (a b : Point) → Some a ≡ Some b → a ≡ b
    one a b e = cc
worked_edges (suc number) x q values there is = absurd (cc)

abbrev block_at : Option Instance → ℕ
block_at None = 0
block_at (Some x) = x.block

-- where the coroutine is resumed its frame lies in a block, which no marker of another one ends
pub worked_blocks : HaveBlocks (after 22)
worked_blocks zero y there =
    let is : 0 ≡ y.block = ap block_at there in
    subst (λ (n : ℕ). n < length (after 22).world.memory) is (omega arith)
worked_blocks (suc number) y there = absurd (cc)

pub worked_unmarked : MarksNoFrame (after 22) (pointer_to 1)
worked_unmarked b zero y leads there going same =
    let is : 0 ≡ y.block = ap block_at there in
    let other : 1 ≡ b = one 1 b leads in
    absurd (omega (arith, is, other, same))
  where
    one : (a b : ℕ) → Some a ≡ Some b → a ≡ b
    one a b e = cc
worked_unmarked b (suc number) y leads there going same = absurd (cc)

-- the ramp passes by the allocation, and then adds
pub worked_end : StandsAtEnd the_elision (after 6) 5
worked_end = record {
  runs = refl;
  block = record { label = 18; phis = []; instrs = []; term = Terminator.Jump 5 };
  has_block = refl;
  stands = refl;
  goes = refl;
  handles = λ plain. absurd (cc);
}

pub worked_sum : StandsAtDone the_elision (after 10) 0 the_sum summed
worked_sum = record {
  place = record {
    runs = refl;
    there = refl;
    stands = refl;
    none = refl;
    handles = λ plain. absurd (cc);
  };
  no_ramp = λ n is. absurd (cc);
  no_slot = tt;
  does = refl;
}

-- by the sum it goes onward, and the caller moves on by its resume
pub worked_onward : GoesOnward the_elision (after 10) (settled (after 10) summed)
worked_onward = record {
  below = refl;
  instances = was_itself (after 10).instances;
  frames = record { given = λ number y there given. given; lives = λ number y there stack going live. live };
  goes = goes_as the_elision (after 10).top (settled (after 10) summed).top
      (record { func = refl; block = refl; result = refl; mode = refl; instance = refl; has_left = refl });
  from = at_point 6 0;
  to = at_point 6 1;
  moves = λ plain. absurd (cc);
  still = λ plain. absurd (cc);
  destroyed = λ plain. absurd (cc);
}

pub worked_moves : MovesOn the_elision (after 21).top (record (after 21).top { at = (after 21).top.at + 1 })
    (record { block = 0; at = 1 }) (record { block = 0; at = 2 })
worked_moves =
    instr_moves the_elision (after 21).top (record (after 21).top { at = (after 21).top.at + 1 }) 1
    (Instr.Call None false None (Callee.Intrinsic Intrinsic.CoroResume)
    (record { ty = ptr; value = Operand.Local 1 } ∷ [])) refl refl refl caller_keeps
    (record { func = refl; block = refl; result = refl; mode = refl; instance = refl; has_left = refl }) refl
    (λ v ne. refl) (λ z has. has)

abbrev func_of : List Activation → ℕ
func_of [] = 0
func_of (c ∷ rows) = c.func

-- the ramp's result is no value of a begin, since its caller is no coroutine
pub worked_apart : ReturnsApart the_elision (after 20)
worked_apart b rest below w begin result =
    let func : 1 ≡ b.func = ap func_of below in
    none_gives w ((λ j. begin_name (function_in the_elision (func j))) ∙ begin)
