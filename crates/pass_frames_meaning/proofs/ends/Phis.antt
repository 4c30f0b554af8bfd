-- What the phis of a block get where it is entered: it may be stored, and stands for the source's.
use Rattle.std.proofs.Common.{◌≡◌, inl, inr, ⊎_elim, ℕ, ◌<◌, ◌≤◌, Bool, true, false, List, [], ◌∷◌, ◌++◌, length, Option, Some, None, refl, sym, ap, ◌∙◌, subst, arith, ◌||◌}
use Rattle.std.specs.Prelude.{map, slice_get, ◌==◌}
use Rattle.std.specs.List.{list_any}
use Rattle.pass_frames_proof.specs.flow_solver.Paths.{IsListed}
use Rattle.pass_frames_proof.specs.frame_classes.declared.class.SlotClass.{SlotClass}
use Rattle.pass_frames_proof.proofs.ir_laws.facts.Lists.{phi_names, row_of, set_here, set_length}
use Rattle.pass_frames_proof.proofs.ir_laws.facts.Truth.{equal_numbers}
use Rattle.pass_frames_proof.proofs.ir_laws.paths.source_rules.Locals.{Apart, listed_left}
use Rattle.pass_frames_proof.specs.ir_model.declared.instr.Phi.{Phi}
use Rattle.pass_frames_proof.specs.ir_model.declared.module.Block.{Block}
use Rattle.pass_frames_proof.specs.ir_model.declared.module.Param.{Param}
use Rattle.pass_frames_proof.specs.ir_model.declared.module.Module.{Module}
use Rattle.pass_frames_proof.specs.ir_paths.Windows.{instr_in}
use Rattle.pass_frames_proof.specs.pass_cells.Cells.{fetched_function, fetches_of}
use Rattle.pass_frames_proof.specs.pass_cells.Kept.{entry}
use Rattle.pass_frames_proof.specs.pass_cells.Links.{bases_of}
use Rattle.pass_frames_proof.specs.pass_fetch.Blocks.{fetched_phis, next_after_phi}
use Rattle.pass_frames_proof.specs.pass_fetch.declared.fetch.Fetch.{Fetch}
use Rattle.pass_frames_proof.specs.pass_frames.Tables.{class_flags}
use Rattle.pass_frames_meaning.proofs.others.Names.{base_made, root_alloca, slot_based}
use Rattle.pass_frames_proof.proofs.code.Passes.{block_is, fetched_there}
use Rattle.pass_frames_proof.proofs.distances.Apart.{has_root}
use Rattle.pass_frames_proof.proofs.jumping.Pairs.{all_set}
use Rattle.pass_frames_proof.specs.Edges.{ArePairs}
use Rattle.pass_frames_proof.specs.Framings.{IsFraming}
use Rattle.pass_frames_proof.specs.Lines.{IsNoRoot}
use Rattle.pass_frames_proof.specs.Passes.{block_at, phi_ends}
use Rattle.pass_frames_proof.specs.Phis.{given_phis}
use Rattle.pass_frames_proof.specs.Places.{Framing, edged, fetched, named, plan}
use Rattle.pass_frames_proof.specs.pass_fetch.Blocks.{next_after_phis_by}
use Rattle.pass_frames_proof.proofs.rule_laws.rules.local_rules.Rows.{apart_at, apart_right}
use Rattle.pass_frames_proof.proofs.rule_laws.rules.local_rules.Woven.{apart_names}
use Rattle.pass_frames_proof.proofs.rule_laws.rules.source_rules.Locals.{block_names, names_are, no_phi, phi_below}
use Rattle.pass_frames_proof.specs.ir_parts.Locals.{locals_of}
use Rattle.pass_renewed_meaning.proofs.run_hooks.alive.Changes.{phis_other}
use Rattle.pass_frames_proof.specs.run_laws.changed.Changed.{Each, result_of}
use Rattle.pass_frames_proof.specs.run_laws.memory.Pointers.{Home, IsValue}
use Rattle.pass_frames_proof.specs.run_memory.declared.pointer.Value.{Value}
use Rattle.pass_frames_proof.specs.run_step.Step.{incoming_from, phi_values, with_all}
use Rattle.pass_frames_proof.specs.run_step.Values.{Env, operand_value, value_in, value_or_poison, with_value}

-- ---- names that get values

set_is : (env : Env) (r : ℕ) (v : Value) → r < length env → value_in (with_value env r v) r ≡ v
set_is env r v lt = ap value_or_poison (set_here env r (Some v) lt)

-- a name that gets one has what stands for it
pub last_stands : (homes : List Home) (bound : ℕ) (env other : Env) (ps qs : List (ℕ × Value))
    → length env ≤ length other → bound ≤ length env → ArePairs homes bound ps qs → (u : ℕ)
    → IsListed u (map (λ (p : ℕ × Value). p.0) ps)
    → IsValue homes (value_in (with_all env ps) u) (value_in (with_all other qs) u)
last_stands homes bound env other [] qs le low h u l = absurd l
last_stands homes bound env other (p ∷ ps) [] le low h u l = absurd h
last_stands homes bound env other (p ∷ ps) (q ∷ qs) le low h u l =
    let long : length (with_value env p.0 p.1) ≡ length env = set_length env p.0 (Some p.1) in
    let other_long : length (with_value other p.0 q.1) ≡ length other = set_length other p.0 (Some q.1) in
    let le' : length (with_value env p.0 p.1) ≤ length (with_value other p.0 q.1) =
    omega (arith, long, other_long, le) in
    let room : p.0 < length env = (let a = h.0.1 in omega (arith, a, low)) in
    let other_room : p.0 < length other = omega (arith, room, le) in
    subst (λ (k : ℕ). IsValue homes (value_in (with_all (with_value env p.0 p.1) ps) u)
    (value_in (with_all (with_value other k q.1) qs) u)) (sym h.0.0) (⊎_elim
    (λ (e : u ≡ p.0).
    (all_set homes bound (with_value env p.0 p.1) (with_value other p.0 q.1) ps qs le' h.1).each u
    (subst (λ (k : ℕ). IsValue homes (value_in (with_value env p.0 p.1) k)
    (value_in (with_value other p.0 q.1) k)) (sym e)
    (subst (λ (z : Value × Value). IsValue homes z.0 z.1)
    (λ i. (sym (set_is env p.0 p.1 room) i, sym (set_is other p.0 q.1 other_room) i)) h.0.2)))
    (λ (k : IsListed u (map (λ (z : ℕ × Value). z.0) ps)).
    last_stands homes bound (with_value env p.0 p.1) (with_value other p.0 q.1) ps qs le'
    (omega (arith, long, low)) h.1 u k) l)

-- ---- phis of which none has the name of another

not_given : (ps : List Phi) (v : ℕ) → (IsListed v (phi_names ps) → ⊥) → list_any (λ p. p.result == v) ps ≡ false
not_given [] v h = refl
not_given (p ∷ ps) v h = on (p.result == v) refl (not_given ps v (λ l. h (inr l)))
  where
    on : (t : Bool) → (p.result == v) ≡ t → list_any (λ q. q.result == v) ps ≡ false
        → (t || list_any (λ q. q.result == v) ps) ≡ false
    on true e rest = absurd (h (inl (sym (equal_numbers p.result v e))))
    on false e rest = rest

module _ (m : Module) (env : Env) (label : ℕ) (t : List (Option Fetch)) where
  -- what they get is what their names have then
  pub phis_told : (now : Env) (n : ℕ) (ps : List Phi) → Apart (phi_names ps)
      → ((r : ℕ) → IsListed r (phi_names ps) → r < length now)
      → given_phis (λ (q : Phi). value_in (with_all now (phi_values m env label ps)) q.result) (fetched_phis t n ps)
      ≡ phi_values m env label ps
  phis_told now n [] h low = refl
  phis_told now n (p ∷ ps) h low =
      let v : Value = operand_value m env p.ty (incoming_from p.incoming label) in
      let long : length (with_value now p.result v) ≡ length now = set_length now p.result (Some v) in
      let head : value_in (with_all (with_value now p.result v) (phi_values m env label ps)) p.result ≡ v =
      phis_other m env label ps (with_value now p.result v) p.result (not_given ps p.result h.0)
      ∙ set_is now p.result v (low p.result (inl refl)) in
      let tail = phis_told (with_value now p.result v) (next_after_phi t n p) ps h.1
      (λ r l. let a : r < length now = low r (inr l) in omega (arith, a, long)) in
      λ i. (p.result, head i) ∷ tail i

  pub phi_told : (ps : List Phi) (r : ℕ) → IsListed r (phi_names ps)
      → IsListed r (map (λ (q : ℕ × Value). q.0) (phi_values m env label ps))
  phi_told [] r l = l
  phi_told (p ∷ ps) r (inl e) = inl e
  phi_told (p ∷ ps) r (inr l) = inr (phi_told ps r l)

-- each of them, by its name
pub each_told : (P : ℕ × Value → Type 0) (t : List (Option Fetch)) (v : ℕ → Value) (n : ℕ) (ps : List Phi)
    → ((r : ℕ) → IsListed r (phi_names ps) → P (r, v r))
    → Each P (given_phis (λ (q : Phi). v q.result) (fetched_phis t n ps))
each_told P t v n [] h = tt
each_told P t v n (p ∷ ps) h = (h p.result (inl refl), each_told P t v (next_after_phi t n p) ps (λ r l. h r (inr l)))

-- ---- of a coroutine

apart_left : (xs ys : List ℕ) → Apart (xs ++ ys) → Apart xs
apart_left [] ys h = tt
apart_left (x ∷ xs) ys h = (λ l. h.0 (listed_left x xs ys l), apart_left xs ys h.1)

module _ (x : Framing) (is : IsFraming x) (k : ℕ)
    (there : slice_get (edged x).blocks k ≡ Some (block_at (edged x) k)) where
  abbrev b : Block
  b = block_at (edged x) k

  -- N1
  pub phis_apart : Apart (phi_names b.phis)
  phis_apart =
      let all : Apart (map (λ (p : Param). p.name) (edged x).params ++ row_of block_names (edged x).blocks) =
      subst Apart (names_are is.position (edged x))
      (apart_names [] (locals_of is.position (edged x)) is.frameable.rules.definitions) in
      apart_left (phi_names b.phis) _
      (apart_at block_names (edged x).blocks k b there
      (apart_right (map (λ (p : Param). p.name) (edged x).params) (row_of block_names (edged x).blocks) all)).1

  pub phis_low : (r : ℕ) → IsListed r (phi_names b.phis) → r < length (edged x).names
  phis_low r l = phi_below is.position (edged x) is.frameable.rules.tabled k b r there l

  -- what is fetched of them
  pub phis_fetched_there : (n : ℕ) × ((block_at (fetched x) k).phis ≡ fetched_phis (fetches_of (plan x)) n b.phis)
  unfolding fetched_function
  phis_fetched_there =
      let q = fetched_there (fetches_of (plan x)) (phi_ends (named x) (fetches_of (plan x))) (length (named x).names)
      (next_after_phis_by (fetches_of (plan x)) (length (named x).names) (named x).blocks) (named x).blocks k b there in
      (q.0, ap (λ (c : Block). c.phis) (block_is (fetched x) k _ q.1))

  module _ (r : ℕ) (l : IsListed r (phi_names b.phis)) where
    pub phi_no_root : IsNoRoot x r
    phi_no_root u slot root same =
        let a = root_alloca x is u slot root in
        no_phi is.position (edged x) is.frameable.rules.definitions k b a.point _ slot there
        (subst (λ (n : ℕ). IsListed n (phi_names b.phis)) (sym same) l) a.stands refl

    pub phi_no_distance : entry (plan x).cells r ≡ None
    phi_no_distance = on (entry (plan x).cells r) refl
      where
        on : (o : Option ℕ) → entry (plan x).cells r ≡ o → o ≡ None
        on None e = refl
        on (Some c) e =
            let root = has_root x is r c e in
            let base = slot_based (class_flags x.function x.contents.classes SlotClass.Local) (bases_of (edged x)) r
            root.0 root.1 in
            let g = base_made (edged x) r base.0 base.1 in
            absurd (no_phi is.position (edged x) is.frameable.rules.definitions k b
            (record { block = g.block; at = g.has.at }) g.has.instr r there l
            (ap (λ (o : Option Block). instr_in o g.has.at) g.found ∙ g.has.there)
            (ap result_of g.has.gep.is))
