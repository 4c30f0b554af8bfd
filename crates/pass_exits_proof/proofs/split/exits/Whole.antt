-- A coroutine stays as splitting asks when blocks are put on edges that leave windows.
use Rattle.std.proofs.Common.{◌≡◌, inl, inr, ⊎_elim, ℕ, true, ◌||◌, List, [], ◌∷◌, ◌++◌, ◌+◌, None, Option, Some, ap, length, refl, subst, sym, ◌∙◌}
use Rattle.std.specs.Prelude.{flat_map, is_some, slice_get}
use Rattle.pass_fetch_proof.specs.rule_shape.Places.{is_the}
use Rattle.pass_fetch_proof.specs.rule_shape.Switches.{wrong_switch}
use Rattle.pass_split.specs.Reached.{entry_of}
use Rattle.pass_fetch_proof.proofs.ir_laws.paths.renamed.Outside.{where_pass}
use Rattle.pass_fetch_proof.specs.ir_laws.facts.renamed.Regular.{passes}
use Rattle.pass_fetch_proof.proofs.rule_laws.rules.source_rules.Locals.{own_label}
use Rattle.pass_fetch_proof.proofs.edges.rules.CaseLabels.{switch_target}
use Rattle.pass_fetch_proof.proofs.edges.rules.Switched.{switched}
use Rattle.pass_fetch_proof.specs.edges.rules.Phis.{ArePhisEnteredByJumps}
use Rattle.pass_fetch_proof.specs.edges.rules.Returns.{AreSwitched}
use Rattle.pass_edges.specs.Edges.{ends_in_suspend}
use Rattle.pass_fetch_proof.specs.ir_laws.facts.branches.MovedState.{IsSwitch}
use Rattle.pass_fetch_proof.specs.flow_solver.Paths.{IsListed}
use Rattle.pass_fetch_proof.specs.rule_laws.rules.function_rules.Kept.{KeepsFunctionRules}
use Rattle.pass_fetch_proof.specs.pass_intrinsics.Shapes.{suspends_of}
use Rattle.pass_fetch_proof.specs.pass_intrinsics.declared.shape.SuspendPoint.{SuspendPoint}
use Rattle.ir_model.specs.Names.{position_of}
use Rattle.ir_model.specs.Ty.{token}
use Rattle.ir_model.specs.declared.instr.Instr.{Instr}
use Rattle.ir_model.specs.declared.instr.Terminator.{Terminator}
use Rattle.ir_model.specs.declared.module.Block.{Block}
use Rattle.ir_model.specs.declared.module.Function.{Function}
use Rattle.ir_model.specs.declared.module.Module.{Module}
use Rattle.ir_model.specs.declared.operand.Intrinsic.{Intrinsic}
use Rattle.pass_fetch_proof.specs.ir_paths.Paths.{targets}
use Rattle.pass_fetch_proof.specs.ir_paths.Windows.{instr_at, instr_in, is_call_of, label_at, label_of_term}
use Rattle.pass_fetch_proof.specs.ir_paths.declared.point.Point.{Point}
use Rattle.pass_fetch_proof.proofs.frame_slots.Points.{where_complete}
use Rattle.pass_exits_proof.specs.split.rules.Reached.{IsLedTo}
use Rattle.pass_fetch_proof.specs.rule_laws.frames.replaced.Splittable.{IsEndedFirst, is_return, may_cross, token_taken}
use Rattle.pass_exits_proof.specs.split.rules.Splittable.{IsSplittable}
use Rattle.pass_fetch_proof.specs.frame_crossing.Crossing.{suspends_of as suspend_points}
use Rattle.pass_fetch_proof.specs.frame_crossing.Paths.{IsDefinedBefore, IsNeededBehind, IsNeededFrom, IsOutside}
use Rattle.pass_fetch_proof.specs.rule_values.Fits.{fits_kind}
use Rattle.pass_split.specs.pass_exits.ExitBlocks.{blocks_by, exit_blocks, exit_term, with_exit_blocks, with_exits}
use Rattle.pass_split.specs.pass_exits.Exits.{block_exits}
use Rattle.pass_fetch_proof.specs.pass_front.Front.{allocas_first, with_allocas_first}
use Rattle.pass_fetch_proof.specs.ir_laws.paths.woven_rules.Pairs.{AreDifferent}
use Rattle.pass_fetch_proof.proofs.rule_laws.frames.threaded.Crossing.{defined_home, needed_from_home}
use Rattle.pass_exits_proof.proofs.exits.rules.Ends.{end_moved}
use Rattle.pass_exits_proof.proofs.exits.rules.Kept.{all_begun, incoming_once, phis_moved, rules_kept}
use Rattle.pass_exits_proof.proofs.exits.rules.Noted.{kinds_same, sizes_same}
use Rattle.pass_exits_proof.proofs.exits.rules.Places.{own_number, spot}
use Rattle.pass_exits_proof.proofs.split.exits.Returns.{led_home, return_home}
use Rattle.pass_fetch_proof.proofs.edges.exit_rules.Shape.{suspend_is}
use Rattle.pass_exits_proof.proofs.exits.rules.Shape.{suspend_term}
use Rattle.pass_exits_proof.proofs.exits.rules.Suspends.{HasOrigin, edges_stay, label_listed, origin, same_suspends, suspend_ends}
use Rattle.pass_exits_proof.proofs.exits.rules.Threaded.{moves, own_position, threaded}
use Rattle.pass_fetch_proof.proofs.ir_laws.paths.threaded.Threads.{IsBlockOver, IsMovedBlock, ended}
use Rattle.pass_fetch_proof.proofs.rule_laws.rules.threaded.Threads.{IsThreaded}
use Rattle.pass_fetch_proof.proofs.ir_laws.paths.threaded.Whole.{has_listed, listed_has}
use Rattle.pass_exits_proof.proofs.exits.rules.Whole.{calls_kept, same_begin, switches_kept}

-- ---- the coroutine

return_same : (f : Function) (k n : ℕ) (t : Terminator) → is_return (exit_term f k n t) ≡ is_return t
return_same f k n (Terminator.Jump label) = refl
return_same f k n (Terminator.Branch c a b) = refl
return_same f k n (Terminator.Switch arg default cases) = refl
return_same f k n (Terminator.Ret value) = refl
return_same f k n Terminator.Unreachable = refl

entry_same : (f : Function) (at n : ℕ) (bs : List Block) → entry_of (blocks_by f at n bs) ≡ entry_of bs
entry_same f at n [] = refl
entry_same f at n (b ∷ bs) = refl

module _ (m : Module) (func : ℕ) (f : Function) (rules : KeepsFunctionRules m func f) (jumps : ArePhisEnteredByJumps f) (coroutine : f.coroutine ≡ true) (switches : wrong_switch func f ≡ None) where
  abbrev g : Function
  g = with_exit_blocks f

  last : AreSwitched f
  last = switched func f coroutine switches

  t : IsThreaded f (with_exit_blocks f) (moves f)
  t = threaded m func f rules jumps

  outside : (b : ℕ) → IsOutside (with_exit_blocks f) (spot f b) → IsOutside f b
  outside b out e = out (ap (spot f) e ∙ sym (end_moved f))

  -- a path leads to a block of the function
  led_there : (k : ℕ) (b : Block) → slice_get f.blocks k ≡ Some b → IsLedTo (with_exit_blocks f) b.label → IsLedTo f b.label
  led_there = led_home f g (moves f) t (entry_same f 0 (length f.names) f.blocks) (own_position m func f rules) (own_label func f rules.definitions)

  -- ---- returns

  pub ended_first : ((p : SuspendPoint) → IsListed p (suspends_of f) → IsLedTo f p.block → IsEndedFirst f p) → (p : SuspendPoint) → IsListed p (suspends_of (with_exit_blocks f)) → IsLedTo (with_exit_blocks f) p.block → IsEndedFirst (with_exit_blocks f) p
  ended_first given p l led = record {
    resume = λ h. old.resume (return_home f g (moves f) t outside (λ k b. return_same f k (own_number f k) b.term) p.resume (position 0 p.resume x.resume) h);
    destroy = λ h. old.destroy (return_home f g (moves f) t outside (λ k b. return_same f k (own_number f k) b.term) p.destroy (position 1 p.destroy x.destroy) h);
  }
    where
      listed : IsListed p (suspends_of f)
      listed = subst (IsListed p) (same_suspends func f coroutine switches) l

      x : HasOrigin f p
      x = origin f p (subst (IsListed p) (same_suspends func f coroutine switches) l)

      reached : IsLedTo f p.block
      reached =
          subst (IsLedTo f) (sym x.is_block)
          (led_there x.index x.block x.got (subst (IsLedTo g) x.is_block led))

      old : IsEndedFirst f p
      old = given p listed reached

      position : (v label : ℕ) → label ≡ label_of_term v x.block.term → position_of (with_exit_blocks f) label ≡ spot f (position_of f label)
      position v label e = t.old x.index x.block label x.got (subst (λ (n : ℕ). IsListed n (targets x.block.term)) (sym e) (label_listed m func f rules last p x v))

  -- ---- what crosses suspends

  -- where a suspend stood
  record StoodAt (s : Point) : Type 0 where
    index : ℕ
    block : Block
    got : slice_get f.blocks index ≡ Some block
    stands : s.block ≡ spot f index
    listed : IsListed (record { block = index; at = s.at }) (suspend_points f)
    ends : ends_in_suspend block.instrs ≡ true
    switch : (v : ℕ) → IsListed (label_of_term v block.term) (targets block.term)

  stood : (s : Point) → IsListed s (suspend_points (with_exit_blocks f)) → StoodAt s
  stood s l = on (instr_at g s) refl (where_pass (is_call_of Intrinsic.CoroSuspend) g s (listed_has s (suspend_points g) l))
    where
      in_block : (i : Instr) → is_call_of Intrinsic.CoroSuspend i ≡ true → (o : Option Block) → slice_get g.blocks s.block ≡ o → instr_in o s.at ≡ Some i → StoodAt s
      in_block i call None e d = absurd (cc)
      in_block i call (Some c) e d = ⊎_elim own over (t.home s.block c e)
        where
          own : IsMovedBlock f (moves f) s.block c → StoodAt s
          own x =
              let here : slice_get x.block.instrs s.at ≡ Some i = ap (λ (b : Block). slice_get b.instrs s.at) (sym x.is) ∙ d in
              let switch = last x.index s.at x.block i x.got here (suspend_is i call) in
              record {
                index = x.index;
                block = x.block;
                got = x.got;
                stands = x.stands;
                listed = has_listed (record { block = x.index; at = s.at }) (suspend_points f) (where_complete (is_call_of Intrinsic.CoroSuspend) f (record { block = x.index; at = s.at }) i (ap (λ (o : Option Block). instr_in o s.at) x.got ∙ here) call);
                ends = suspend_ends f last x.index x.block s.at i x.got here (suspend_is i call);
                switch = λ v. switch_target v x.block.term (subst IsSwitch (sym switch.is) tt);
              }

          over : IsBlockOver f g (moves f) s.block c → StoodAt s
          over x = let none : slice_get [] s.at ≡ Some i = ap (λ (b : Block). slice_get b.instrs s.at) (sym x.is) ∙ d in absurd (cc)

      on : (o : Option Instr) → instr_at g s ≡ o → passes (is_call_of Intrinsic.CoroSuspend) o ≡ true → StoodAt s
      on None e h = absurd (cc)
      on (Some i) e h = in_block i h (slice_get g.blocks s.block) refl e

  module _ (v : ℕ) (s : Point) (x : StoodAt s) where
    abbrev was : Point
    was = record { block = x.index; at = s.at }

    new_label : (n : ℕ) → label_at n (slice_get g.blocks s.block) ≡ label_of_term n x.block.term
    new_label n =
        ap (λ (k : ℕ). label_at n (slice_get g.blocks k)) x.stands
        ∙ ap (label_at n) (t.there x.index x.block x.got)
        ∙ ap (label_of_term n) (suspend_term f x.index (own_number f x.index) x.block x.got x.ends)

    one_home : (n : ℕ) → IsNeededFrom g v s.block (label_at n (slice_get g.blocks s.block)) → IsNeededFrom f v x.index (label_at n (slice_get f.blocks x.index))
    one_home n h =
        subst (IsNeededFrom f v x.index) (sym (ap (label_at n) x.got))
        (needed_from_home f g (moves f) t v (phis_moved m func f rules jumps) outside x.index (label_of_term n x.block.term) (t.old x.index x.block (label_of_term n x.block.term) x.got (x.switch n))
        (subst (λ (k : ℕ). IsNeededFrom g v k (label_of_term n x.block.term)) x.stands (subst (IsNeededFrom g v s.block) (new_label n) h)))

    behind_home : IsNeededBehind g v s → IsNeededBehind f v (record { block = x.index; at = s.at })
    behind_home (inl h) = inl (one_home 0 h)
    behind_home (inr h) = inr (one_home 1 h)

  -- the label of the block in which a suspend stands, to which a path leads
  led_where : (s : Point) (c : Block) (x : StoodAt s) → slice_get (with_exit_blocks f).blocks s.block ≡ Some c → IsLedTo (with_exit_blocks f) c.label → IsLedTo f x.block.label
  led_where s c x there led =
      let both : Some c ≡ Some (ended x.block (exit_term f x.index (own_number f x.index) x.block.term)) = sym there ∙ ap (slice_get g.blocks) x.stands ∙ t.there x.index x.block x.got in
      let same : c ≡ ended x.block (exit_term f x.index (own_number f x.index) x.block.term) = cc in
      led_there x.index x.block x.got (subst (λ (b : Block). IsLedTo g b.label) same led)

  pub crossing_kept : ((v : ℕ) (s : Point) (b : Block) → IsListed s (suspend_points f) → slice_get f.blocks s.block ≡ Some b → IsLedTo f b.label → IsDefinedBefore f v s.block s.at → IsNeededBehind f v s → may_cross m f v ≡ true) → (v : ℕ) (s : Point) (b : Block) → IsListed s (suspend_points (with_exit_blocks f)) → slice_get (with_exit_blocks f).blocks s.block ≡ Some b → IsLedTo (with_exit_blocks f) b.label → IsDefinedBefore (with_exit_blocks f) v s.block s.at → IsNeededBehind (with_exit_blocks f) v s → may_cross m (with_exit_blocks f) v ≡ true
  crossing_kept given v s c l there led defined needed =
      let x = stood s l in
      (λ i. is_the (same_begin f i) v || (is_some (sizes_same f m i v) || fits_kind (kinds_same f i v) token))
      ∙ given v (record { block = x.index; at = s.at }) x.block x.listed x.got (led_where s c x there led)
      (defined_home f g (moves f) t v x.index s.at (subst (λ (k : ℕ). IsDefinedBefore g v k s.at) x.stands defined))
      (behind_home v s x needed)

-- the allocas stay in front
exits_front : (f : Function) → with_allocas_first f.blocks ≡ f.blocks → with_allocas_first (with_exit_blocks f).blocks ≡ (with_exit_blocks f).blocks
exits_front f = on f.blocks (length f.names)
  where
    on : (bs : List Block) (n : ℕ) → with_allocas_first bs ≡ bs → with_allocas_first (blocks_by f 0 n bs) ≡ blocks_by f 0 n bs
    on [] n e = refl
    on (b ∷ bs) n e =
        let first : allocas_first b ≡ b = cc in
        ap (λ (c : Block). with_exits f 0 n c ∷ exit_blocks n (block_exits f 0 b) ++ blocks_by f 1 (n + length (block_exits f 0 b)) bs) first

pub splittable_kept : (m : Module) (k : ℕ) (f : Function) (begin : ℕ) → IsSplittable m k f begin → ArePhisEnteredByJumps f → IsSplittable m k (with_exit_blocks f) begin
splittable_kept m k f begin h jumps = record {
  coroutine = h.coroutine;
  rules = rules_kept m k f h.rules jumps;
  once = incoming_once f h.once;
  calls = calls_kept k f h.coroutine h.calls;
  switches = switches_kept k f h.coroutine h.switches;
  named = same_begin f ∙ h.named;
  front = exits_front f h.front;
  begun = all_begun m k f h.rules jumps begin h.begun;
  tokens = subst (λ (ps : List SuspendPoint). AreDifferent (flat_map token_taken ps)) (sym (same_suspends k f h.coroutine h.switches)) h.tokens;
  edges = edges_stay m k f h.rules h.coroutine h.switches h.edges;
  returns = ended_first m k f h.rules jumps h.coroutine h.switches h.returns;
  crossing = crossing_kept m k f h.rules jumps h.coroutine h.switches h.crossing;
}
