-- The address of a ramp slot isn't needed behind a suspend.
use Rattle.std.proofs.Common.{◌≡◌, ◌⊎◌, inl, inr, ℕ, zero, suc, ◌+◌, Bool, true, false, List, [], ◌∷◌, Option, Some, None}
use Rattle.std.proofs.Common.{refl, sym, ap, ◌∙◌, subst}
use Rattle.std.specs.List.{list_any}
use Rattle.std.specs.Prelude.{IsTrue, flat_map, not, slice_get, ◌||◌, ◌==◌, if◌then◌else◌}
use Rattle.pass_proofs.proofs.frame_classes.Coming.{outside_end}
use Rattle.pass_proofs.proofs.frame_slots.Points.{where_complete}
use Rattle.pass_proofs.proofs.ir_laws.facts.Truth.{and_both, equal_numbers}
use Rattle.pass_proofs.specs.ir_model.Names.{is_local, position_of}
use Rattle.pass_proofs.specs.ir_model.declared.instr.Incoming.{Incoming}
use Rattle.pass_proofs.specs.ir_model.declared.instr.Instr.{Instr}
use Rattle.pass_proofs.specs.ir_model.declared.instr.Phi.{Phi}
use Rattle.pass_proofs.specs.ir_model.declared.instr.Terminator.{Terminator}
use Rattle.pass_proofs.specs.ir_model.declared.module.Block.{Block}
use Rattle.pass_proofs.specs.ir_model.declared.module.Function.{Function}
use Rattle.pass_proofs.specs.ir_model.declared.operand.Arg.{Arg}
use Rattle.pass_proofs.specs.ir_model.declared.operand.Callee.{Callee}
use Rattle.pass_proofs.specs.ir_model.declared.operand.Intrinsic.{Intrinsic}
use Rattle.pass_proofs.proofs.ir_paths.Search.{or_left, or_right, same_point-itself, same_point-same}
use Rattle.pass_proofs.specs.ir_paths.Paths.{Leads, entry_point, has_point, nexts, same_point}
use Rattle.pass_proofs.specs.ir_paths.Slots.{IsRampSlot, addresses_of, behind_suspends, end_points, exposed_in_block}
use Rattle.pass_proofs.specs.ir_paths.Slots.{exposes, has_name, is_escaped, is_in_args, occurs, occurs_in_phi, occurs_in_term, touches}
use Rattle.pass_proofs.specs.ir_paths.Windows.{destroy_label, end_block, is_call_of, operand_at, points_where, resume_label}
use Rattle.pass_proofs.specs.ir_paths.declared.point.Point.{Point}
use Rattle.pass_proofs.proofs.pass_kept_proof.Read.{end_reads_nothing}
use Rattle.pass_proofs.specs.pass_kept_proof.Handed.{HasPlainNames}
use Rattle.pass_proofs.specs.pass_kept_proof.Needed
use Rattle.pass_proofs.specs.pass_kept_proof.Needed.{BranchesTo, IsNeeded, IsNeededBehind, IsNeededOn, PassesBy, label_of_block}
use Rattle.pass_proofs.specs.pass_kept_proof.Needed.{phis_read, reads, reads_at, reads_intrinsic}
use Rattle.pass_proofs.specs.pass_kept_proof.SuspendRules.{IsCallAt}
use Rattle.pass_renewed_meaning.proofs.pass_renewed_proof.Ahead.{branch_edge, leads_more, next_edge}
use Rattle.pass_renewed_meaning.proofs.pass_renewed_proof.Ordinary.{own_address}
use Rattle.pass_renewed_meaning.proofs.pass_renewed_proof.Stands.{end_at_first}
use Rattle.pass_renewed_meaning.specs.pass_renewed_proof.Way.{IsResumedAt}
use Rattle.pass_proofs.proofs.rule_laws.rules.sources.Places.{instr_there, point, term_there}
use Rattle.pass_proofs.specs.run_step.Step.{AtInstr, AtTerm, Fetched, Nowhere, fetch, incoming_from, phis_of}

-- ---- paths from the edges of suspends

-- a path leads from a resume or destroy edge to the point, without the end's block before it
record IsLedBehind (f : Function) (p : Point) : Type 0 where
  first : Point
  is_first : IsTrue (has_point (behind_suspends f) first)
  path : (first ≡ p) ⊎ ((has_point (end_points f) first ≡ false) × Leads f (end_points f) first p)

led_on : (f : Function) (p q : Point) → IsLedBehind f p → has_point (end_points f) p ≡ false
    → has_point (nexts f p) q ≡ true → IsLedBehind f q
led_on f p q x outside edge = record { first = x.first; is_first = x.is_first; path = inr (on x.path) }
  where
    on : (x.first ≡ p) ⊎ ((has_point (end_points f) x.first ≡ false) × Leads f (end_points f) x.first p)
        → (has_point (end_points f) x.first ≡ false) × Leads f (end_points f) x.first q
    on (inl e) = (
      subst (λ (z : Point). has_point (end_points f) z ≡ false) (sym e) outside,
      subst (λ (z : Point). Leads f (end_points f) z q) (sym e) (record { between = []; is_path = edge }),
    )
    on (inr y) = (y.0, leads_more f (end_points f) x.first p q y.1 outside edge)

-- the edges of a suspend are among those of all
module _ (f : Function) (s : Point) where
  abbrev edges_at : Point → List Point
  edges_at z = entry_point f (resume_label f z) ∷ entry_point f (destroy_label f z) ∷ []

  among : (ps : List Point) → has_point ps s ≡ true → (q : Point) → has_point (edges_at s) q ≡ true
      → has_point (flat_map (λ z. entry_point f (resume_label f z) ∷ entry_point f (destroy_label f z) ∷ []) ps) q ≡ true
  among [] h q e = absurd (cc)
  among (p ∷ ps) h q e = on (same_point s p) refl h (λ k. among ps k q e)
    where
      rest : List Point
      rest = flat_map (λ z. entry_point f (resume_label f z) ∷ entry_point f (destroy_label f z) ∷ []) ps

      shorter : (a b : Bool) → (a || (b || false)) ≡ true → (r : Bool) → (a || (b || r)) ≡ true
      shorter true b k r = refl
      shorter false true k r = refl
      shorter false false k r = absurd (cc)

      longer : (a b r : Bool) → r ≡ true → (a || (b || r)) ≡ true
      longer true b r k = refl
      longer false true r k = refl
      longer false false r k = k

      on : (b : Bool) → same_point s p ≡ b → (b || has_point ps s) ≡ true
          → (has_point ps s ≡ true
          → has_point (flat_map (λ z. entry_point f (resume_label f z) ∷ entry_point f (destroy_label f z) ∷ []) ps) q
          ≡ true)
          → has_point (entry_point f (resume_label f p) ∷ entry_point f (destroy_label f p)
          ∷ flat_map (λ z. entry_point f (resume_label f z) ∷ entry_point f (destroy_label f z) ∷ []) ps) q ≡ true
      on true d k again =
          let same : s ≡ p = same_point-same s p d in
          shorter (same_point q (entry_point f (resume_label f p))) (same_point q (entry_point f (destroy_label f p)))
          (subst (λ (z : Point). has_point (edges_at z) q ≡ true) same e) _
      on false d k again = longer (same_point q (entry_point f (resume_label f p)))
          (same_point q (entry_point f (destroy_label f p))) _ (again k)

-- ---- what is read occurs

any_named : (t : ℕ → Bool) (vs : List ℕ) (a : ℕ) → has_name vs a ≡ true → t a ≡ true → list_any t vs ≡ true
any_named t [] a h e = absurd (cc)
any_named t (u ∷ vs) a h e = on (u == a) refl h (λ k. any_named t vs a k e)
  where
    on : (b : Bool) → (u == a) ≡ b → (b || has_name vs a) ≡ true → (has_name vs a ≡ true → list_any t vs ≡ true)
        → (t u || list_any t vs) ≡ true
    on true d k rest = or_left (t u) (list_any t vs) (ap t (equal_numbers u a d) ∙ e)
    on false d k rest = or_right (t u) (list_any t vs) (rest k)

any_at : {A : Type 0} (t : A → Bool) (xs : List A) (n : ℕ) (x : A) → slice_get xs n ≡ Some x → t x ≡ true
    → list_any t xs ≡ true
any_at t [] n x e h = absurd (cc)
any_at t (y ∷ ys) zero x e h = let same : y ≡ x = cc in or_left (t y) (list_any t ys) (ap t same ∙ h)
any_at t (y ∷ ys) (suc n) x e h = or_right (t y) (list_any t ys) (any_at t ys n x e h)

arg_occurs : (v n : ℕ) (args : List Arg) → is_local v (operand_at args n) ≡ true → is_in_args v args ≡ true
arg_occurs v n [] h = absurd (cc)
arg_occurs v zero (a ∷ args) h = or_left (is_local v a.value) (is_in_args v args) h
arg_occurs v (suc n) (a ∷ args) h = or_right (is_local v a.value) (is_in_args v args) (arg_occurs v n args h)

regroup : (a b c : Bool) → (a || (b || c)) ≡ true → ((a || b) || c) ≡ true
regroup true b c h = refl
regroup false b c h = h

record OccursIn (v : ℕ) (i : Instr) : Type 0 where
  occurs_there : occurs v i ≡ true
  no_id : is_call_of Intrinsic.CoroId i ≡ false

read_occurs : (v : ℕ) (i : Instr) → reads v i ≡ true → OccursIn v i
read_occurs v (Instr.Binary name op flags ty a b) h = record { occurs_there = h; no_id = refl }
read_occurs v (Instr.Icmp name pred ty a b) h = record { occurs_there = h; no_id = refl }
read_occurs v (Instr.Select name x a b) h = record {
  occurs_there = regroup (is_local v x) (is_local v a.value) (is_local v b.value) h;
  no_id = refl;
}
read_occurs v (Instr.Cast name op nneg arg to) h = record { occurs_there = h; no_id = refl }
read_occurs v (Instr.Alloca name ty align) h = absurd (cc)
read_occurs v (Instr.Load name ty p align) h = record { occurs_there = h; no_id = refl }
read_occurs v (Instr.Store arg p align) h = record { occurs_there = h; no_id = refl }
read_occurs v (Instr.Gep name inbounds ty base indices) h = record { occurs_there = h; no_id = refl }
read_occurs v (Instr.Call r t ty (Callee.Named n) args) h = record { occurs_there = h; no_id = refl }
read_occurs v (Instr.Call r t ty (Callee.Allocator a) args) h = record { occurs_there = h; no_id = refl }
read_occurs v (Instr.Call r t ty (Callee.Local f) args) h = record { occurs_there = h; no_id = refl }
read_occurs v (Instr.Call r t ty (Callee.Intrinsic i) args) h = by i h
  where
    by : (i : Intrinsic) → reads_intrinsic v i args ≡ true → OccursIn v (Instr.Call r t ty (Callee.Intrinsic i) args)
    by Intrinsic.CoroBegin k = record { occurs_there = arg_occurs v 1 args k; no_id = refl }
    by Intrinsic.CoroResume k = record { occurs_there = arg_occurs v 0 args k; no_id = refl }
    by Intrinsic.CoroDestroy k = record { occurs_there = arg_occurs v 0 args k; no_id = refl }
    by Intrinsic.CoroDone k = record { occurs_there = arg_occurs v 0 args k; no_id = refl }
    by Intrinsic.CoroPromise k = record { occurs_there = arg_occurs v 0 args k; no_id = refl }
    by Intrinsic.LifetimeStart k = record { occurs_there = k; no_id = refl }
    by Intrinsic.LifetimeEnd k = record { occurs_there = k; no_id = refl }
    by Intrinsic.MemcpyI64 k = record { occurs_there = k; no_id = refl }
    by Intrinsic.MemcpyI32 k = record { occurs_there = k; no_id = refl }
    by _ k = absurd (cc)

phi_occurs : (v from : ℕ) (is : List Incoming) → is_local v (incoming_from is from) ≡ true
    → list_any (λ i. is_local v i.value) is ≡ true
phi_occurs v from [] h = absurd (cc)
phi_occurs v from (i ∷ is) h = on (i.from == from) h (phi_occurs v from is)
  where
    on : (b : Bool) → is_local v (if b then i.value else incoming_from is from) ≡ true
        → (is_local v (incoming_from is from) ≡ true → list_any (λ j. is_local v j.value) is ≡ true)
        → (is_local v i.value || list_any (λ j. is_local v j.value) is) ≡ true
    on true k rest = or_left (is_local v i.value) (list_any (λ j. is_local v j.value) is) k
    on false k rest = or_right (is_local v i.value) (list_any (λ j. is_local v j.value) is) (rest k)

phis_occur : (v from : ℕ) (ps : List Phi) → phis_read v from ps ≡ true → list_any (occurs_in_phi v) ps ≡ true
phis_occur v from [] h = absurd (cc)
phis_occur v from (p ∷ ps) h = on (is_local v (incoming_from p.incoming from)) refl h (phis_occur v from ps)
  where
    on : (b : Bool) → is_local v (incoming_from p.incoming from) ≡ b → (b || phis_read v from ps) ≡ true
        → (phis_read v from ps ≡ true → list_any (occurs_in_phi v) ps ≡ true)
        → (occurs_in_phi v p || list_any (occurs_in_phi v) ps) ≡ true
    on true e k rest = or_left (occurs_in_phi v p) (list_any (occurs_in_phi v) ps) (phi_occurs v from p.incoming e)
    on false e k rest = or_right (occurs_in_phi v p) (list_any (occurs_in_phi v) ps) (rest k)

-- ---- uses of a slot that isn't escaped

module _ (f : Function) (names : HasPlainNames f) (a : ℕ) (ramp : IsRampSlot f a) where
  own : has_name (addresses_of f a) a ≡ true
  own = own_address f a

  not_exposed : (block : ℕ) (b : Block) → slice_get f.blocks block ≡ Some b → exposed_in_block a b ≡ true → ⊥
  not_exposed block b e h =
      let yes : is_escaped f a ≡ true = any_named (λ u. list_any (exposed_in_block u) f.blocks) (addresses_of f a) a own
      (any_at (exposed_in_block a) f.blocks block b e h) in
      let no : true ≡ false = sym yes ∙ ramp.is_not_escaped in
      absurd (cc)

  no_term : (block at : ℕ) (t : Terminator) → fetch f block at ≡ AtTerm t → occurs_in_term a t ≡ true → ⊥
  no_term block at t e h =
      let x = term_there f block at t e in
      not_exposed block x.own x.got
      (last (list_any (occurs_in_phi a) x.own.phis) (list_any (exposes a) x.own.instrs)
      (ap (occurs_in_term a) x.is ∙ h))
    where
      last : (p q : Bool) {r : Bool} → r ≡ true → ((p || q) || r) ≡ true
      last p q {r} k = or_right (p || q) r k

  no_phi : (from block : ℕ) → phis_read a from (phis_of (slice_get f.blocks block)) ≡ true → ⊥
  no_phi from block h = on (slice_get f.blocks block) refl h
    where
      on : (o : Option Block) → slice_get f.blocks block ≡ o → phis_read a from (phis_of o) ≡ true → ⊥
      on None e k = absurd (cc)
      on (Some b) e k = not_exposed block b e (or_left (list_any (occurs_in_phi a) b.phis || list_any (exposes a) b.instrs)
          (occurs_in_term a b.term) (or_left (list_any (occurs_in_phi a) b.phis) (list_any (exposes a) b.instrs)
          (phis_occur a from b.phis k)))

  -- a place of the end's block is its front
  abbrev IsFront : ℕ → ℕ → Type 0
  IsFront block at = block ≡ end_block f → at ≡ 0

  at_end : (block at : ℕ) (x : Fetched) → fetch f block at ≡ x → IsFront block at → block ≡ end_block f
      → fetch f (end_block f) 0 ≡ x
  at_end block at x e front is = sym (λ j. fetch f (is j) (front is j)) ∙ e

  open_at : (block at : ℕ) → (block ≡ end_block f → ⊥) → has_point (end_points f) (point block at) ≡ false
  open_at block at other = outside_end f (point block at) other

  no_read : (block at : ℕ) → IsFront block at → IsLedBehind f (point block at)
      → (x : Fetched) → fetch f block at ≡ x → reads_at a x ≡ true → ⊥
  no_read block at front led Nowhere e h = absurd (cc)
  no_read block at front led (AtTerm t) e h = no_term block at t e h
  no_read block at front led (AtInstr i) e h = ramp.in_ramp (point block at)
      (where_complete (touches (addresses_of f a)) f (point block at) i (instr_there f block at i e)
      (and_both (list_any (λ v. occurs v i) (addresses_of f a)) (not (is_call_of Intrinsic.CoroId i))
      (any_named (λ v. occurs v i) (addresses_of f a) a own (read_occurs a i h).occurs_there)
      (ap not (read_occurs a i h).no_id))) (record {
        first = led.first;
        is_first = led.is_first;
        path = led.path;
        is_not_in_end = open_at block at outside;
      })
    where
      outside : block ≡ end_block f → ⊥
      outside is = end_reads_nothing a i (names.end_is_first i (at_end block at (AtInstr i) e front is)) h

  no_pass : (block at : ℕ) → IsFront block at → PassesBy a (fetch f block at) → block ≡ end_block f → ⊥
  no_pass block at front h is = on (fetch f block at) refl h
    where
      on : (x : Fetched) → fetch f block at ≡ x → PassesBy a x → ⊥
      on Nowhere e k = k
      on (AtTerm t) e k = k
      on (AtInstr i) e k =
          let yes : is_call_of Intrinsic.CoroEnd i ≡ true = names.end_is_first i (at_end block at (AtInstr i) e front is)
          in
          let no : true ≡ false = sym yes ∙ k.0 in
          absurd (cc)

  next_open : (block at : ℕ) → PassesBy a (fetch f block at)
      → has_point (nexts f (point block at)) (point block (at + 1)) ≡ true
  next_open block at h = on (fetch f block at) refl h
    where
      on : (x : Fetched) → fetch f block at ≡ x → PassesBy a x
          → has_point (nexts f (point block at)) (point block (at + 1)) ≡ true
      on Nowhere e k = absurd k
      on (AtTerm t) e k = absurd k
      on (AtInstr i) e k = next_edge f block at i e

  no_branch : (block at label : ℕ) → IsFront block at → BranchesTo label (fetch f block at) → block ≡ end_block f → ⊥
  no_branch block at label front h is = on (fetch f block at) refl h
    where
      on : (x : Fetched) → fetch f block at ≡ x → BranchesTo label x → ⊥
      on Nowhere e k = k
      on (AtInstr i) e k = k
      on (AtTerm t) e k = names.end_is_there t (at_end block at (AtTerm t) e front is)

  unneeded : {block at : ℕ} → IsNeeded f a block at → IsFront block at → IsLedBehind f (point block at) → ⊥
  unneeded (Needed.read {block} {at} h) front led = no_read block at front led (fetch f block at) refl h
  unneeded (Needed.next {block} {at} h n) front led =
      let out : block ≡ end_block f → ⊥ = no_pass block at front h in
      unneeded n (λ is. absurd (out is)) (led_on f (point block at) (point block (at + 1)) led (open_at block at out)
      (next_open block at h))
  unneeded (Needed.phi {block} {at} label b h) front led = no_phi (label_of_block f block) (position_of f label) h
  unneeded (Needed.enter {block} {at} label b none n) front led =
      let out : block ≡ end_block f → ⊥ = no_branch block at label front b in
      unneeded n (λ is. refl) (led_on f (point block at) (entry_point f label) led (open_at block at out)
      (branch_edge f block at label b).edge)

  unneeded_on : (s : Point) (label : ℕ) → has_point (behind_suspends f) (entry_point f label) ≡ true
      → IsNeededOn f a s.block label → ⊥
  unneeded_on s label among_them (inl h) = no_phi (label_of_block f s.block) (position_of f label) h
  unneeded_on s label among_them (inr x) = unneeded x.1 (λ is. refl)
      (record { first = entry_point f label; is_first = among_them; path = inl refl })

  pub ramp_unneeded : (s : Point) → IsCallAt Intrinsic.CoroSuspend f s → IsNeededBehind f s a → ⊥
  ramp_unneeded s c n = on n
    where
      there : has_point (points_where (is_call_of Intrinsic.CoroSuspend) f) s ≡ true
      there = where_complete (is_call_of Intrinsic.CoroSuspend) f s c.instr
          (instr_there f s.block s.at c.instr c.stands) c.is

      first : Point
      first = entry_point f (resume_label f s)

      second : Point
      second = entry_point f (destroy_label f s)

      on : IsNeededBehind f s a → ⊥
      on (inl h) = unneeded_on s (resume_label f s) (among f s (points_where (is_call_of Intrinsic.CoroSuspend) f) there
          (entry_point f (resume_label f s)) (or_left (same_point (entry_point f (resume_label f s))
          (entry_point f (resume_label f s))) _ (same_point-itself (entry_point f (resume_label f s))))) h
      on (inr h) = unneeded_on s (destroy_label f s)
          (among f s (points_where (is_call_of Intrinsic.CoroSuspend) f) there (entry_point f (destroy_label f s))
          (or_right (same_point (entry_point f (destroy_label f s)) (entry_point f (resume_label f s))) _
          (or_left (same_point (entry_point f (destroy_label f s)) (entry_point f (destroy_label f s))) false
          (same_point-itself (entry_point f (destroy_label f s)))))) h

  -- nor is it read where a resumed activation stands
  pub ramp_unread : (block at : ℕ) → IsResumedAt f (point block at) → reads_at a (fetch f block at) ≡ true → ⊥
  ramp_unread block at r h =
      no_read block at (λ is. end_at_first f (point block at) r is) (record {
        first = r.came.edge;
        is_first = among f r.suspend (points_where (is_call_of Intrinsic.CoroSuspend) f) r.came.is_suspend r.came.edge
            r.came.own;
        path = r.came.comes;
      }) (fetch f block at) refl h
