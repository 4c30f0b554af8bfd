-- Paths of points, and the paths of blocks on which they go.
use Rattle.std.proofs.Common.{◌≡◌, ◌⊎◌, inl, inr, ⊎_elim, ℕ, zero, suc, ◌+◌, ◌-◌, ◌<◌, ◌≤◌, Bool, true, false, List, [], ◌∷◌, length, refl, sym, ap, ◌∙◌, subst, arith}
use Rattle.std.proofs.lemmas.Bool.{cases_lt, le-ltb, lt-ltb}
use Rattle.std.proofs.lemmas.List.{length-map}
use Rattle.std.proofs.lemmas.Option.{slice_get-map}
use Rattle.std.specs.Prelude.{None, Option, Some, if◌then◌else◌, map, nat_lt, option_map, slice_get, unwrap_or, ◌==◌}
use Rattle.compiler.specs.flow_solver.Paths.{IsListed}
use Rattle.compiler.proofs.ir_laws.paths.alike_slots.Strands.{leads_at}
use Rattle.compiler.proofs.ir_laws.paths.expanded.Strands.{leads_on}
use Rattle.compiler.proofs.ir_laws.paths.threads.Edges.{one_there, only_one}
use Rattle.compiler.specs.ir_model.Names.{first_where, position_of}
use Rattle.compiler.specs.ir_model.declared.module.Block.{Block}
use Rattle.compiler.specs.ir_model.declared.module.Function.{Function}
use Rattle.compiler.proofs.ir_paths.Search.{Has, either, eq_itself, or_left, or_right, same_point-itself, same_point-same}
use Rattle.compiler.specs.ir_paths.Paths.{IsPath, Leads, entry_point, has_point, nexts, nexts_in, same_point, targets}
use Rattle.compiler.specs.ir_paths.declared.point.Point.{Point}

-- a path of blocks, of one edge or more
pub data Reaches (f : Function) : ℕ → ℕ → Type 0 where
  Edge : (k : ℕ) (b : Block) (t : ℕ) → slice_get f.blocks k ≡ Some b → IsListed t (targets b.term)
      → Reaches f k (position_of f t)
  More : (k : ℕ) (b : Block) (t j : ℕ) → slice_get f.blocks k ≡ Some b → IsListed t (targets b.term)
      → Reaches f (position_of f t) j → Reaches f k j

abbrev place : ℕ → ℕ → Point
place k i = record { block = k; at = i }

-- ---- the blocks on a path of points

module _ (f : Function) where
  -- an edge leads from the end of a block to the front of another one
  record IsJump (p q : Point) : Type 0 where
    block : Block
    got : slice_get f.blocks p.block ≡ Some block
    target : ℕ
    listed : IsListed target (targets block.term)
    is : q ≡ entry_point f target

  record IsTarget (ts : List ℕ) (q : Point) : Type 0 where
    target : ℕ
    listed : IsListed target ts
    is : q ≡ entry_point f target

  in_targets : (ts : List ℕ) (q : Point) → Has (map (entry_point f) ts) q → IsTarget ts q
  in_targets [] q h = absurd (cc)
  in_targets (t ∷ ts) q h = ⊎_elim
      (λ (e : same_point q (entry_point f t) ≡ true).
      record { target = t; listed = inl refl; is = same_point-same q (entry_point f t) e })
      (λ (k : Has (map (entry_point f) ts) q).
      let x = in_targets ts q k in record { target = x.target; listed = inr x.listed; is = x.is })
      (either (same_point q (entry_point f t)) (has_point (map (entry_point f) ts) q) h)

  abbrev IsNextIn : Point → Point → Type 0
  IsNextIn p q = (p.block ≡ q.block) × (p.at + 1 ≡ q.at)

  step : (p q : Point) → Has (nexts f p) q → IsNextIn p q ⊎ IsJump p q
  step p q h = on (slice_get f.blocks p.block) refl h
    where
      by : (b : Block) → slice_get f.blocks p.block ≡ Some b → (s t : Bool)
          → Has (if s then place p.block (p.at + 1) ∷ []
          else if t then map (entry_point f) (targets b.term) else []) q → IsNextIn p q ⊎ IsJump p q
      by b e true t k =
          let same = only_one (place p.block (p.at + 1)) q k in
          inl (sym (ap (λ (x : Point). x.block) same), sym (ap (λ (x : Point). x.at) same))
      by b e false true k =
          let x = in_targets (targets b.term) q k in
          inr (record { block = b; got = e; target = x.target; listed = x.listed; is = x.is })
      by b e false false k = absurd (cc)

      on : (o : Option Block) → slice_get f.blocks p.block ≡ o → Has (nexts_in f p o) q → IsNextIn p q ⊎ IsJump p q
      on None e k = absurd (cc)
      on (Some b) e k = by b e (nat_lt p.at (length b.instrs)) (p.at == length b.instrs) k

  -- further on in its block, or in a block to which blocks lead
  abbrev pub IsAheadOf : Point → Point → Type 0
  IsAheadOf p q = ((p.block ≡ q.block) × (p.at < q.at)) ⊎ Reaches f p.block q.block

  along_blocks : (between : List Point) (p q : Point) → IsPath f [] p between q → IsAheadOf p q
  along_blocks [] p q h = ⊎_elim
      (λ (s : IsNextIn p q). let at : p.at + 1 ≡ q.at = s.1 in inl (s.0, omega (arith, at)))
      (λ (e : IsJump p q).
      inr (subst (λ (x : Point). Reaches f p.block x.block) (sym e.is) (Edge p.block e.block e.target e.got e.listed)))
      (step p q h)
  along_blocks (v ∷ between) p q h =
      let again : IsAheadOf v q = along_blocks between v q h.2 in
      ⊎_elim (on_within again) (on_jump again) (step p v h.0)
    where
      on_within : IsAheadOf v q → IsNextIn p v → IsAheadOf p q
      on_within again s = ⊎_elim
          (λ (a : (v.block ≡ q.block) × (v.at < q.at)).
          let one : p.at + 1 ≡ v.at = s.1 in let more : v.at < q.at = a.1 in inl (s.0 ∙ a.0, omega (arith, one, more)))
          (λ (r : Reaches f v.block q.block). inr (subst (λ (k : ℕ). Reaches f k q.block) (sym s.0) r))
          again

      on_jump : IsAheadOf v q → IsJump p v → IsAheadOf p q
      on_jump again e = ⊎_elim
          (λ (a : (v.block ≡ q.block) × (v.at < q.at)).
          inr (subst (Reaches f p.block) (sym (ap (λ (x : Point). x.block) e.is) ∙ a.0)
          (Edge p.block e.block e.target e.got e.listed)))
          (λ (r : Reaches f v.block q.block).
          inr (More p.block e.block e.target q.block e.got e.listed
          (subst (λ (x : Point). Reaches f x.block q.block) e.is r)))
          again

  pub blocks_on : (p q : Point) → Leads f [] p q → IsAheadOf p q
  blocks_on p q l = along_blocks l.between p q l.is_path

  -- ---- the points on a path of blocks

  leads_join : (p v q : Point) → Leads f [] p v → Leads f [] v q → Leads f [] p q
  leads_join p v q l m = along l.between p l.is_path
    where
      along : (between : List Point) (p : Point) → IsPath f [] p between v → Leads f [] p q
      along [] p h = leads_on f [] p v q h refl m
      along (u ∷ us) p h = leads_on f [] p u q h.0 refl (along us u h.2)

  module _ (k : ℕ) (b : Block) (got : slice_get f.blocks k ≡ Some b) where
    nexts_are : (i : ℕ) → nexts f (place k i) ≡ (if nat_lt i (length b.instrs) then place k (i + 1) ∷ []
        else if i == length b.instrs then map (entry_point f) (targets b.term) else [])
    nexts_are i = ap (nexts_in f (place k i)) got

    next_in : (i : ℕ) → i < length b.instrs → Has (nexts f (place k i)) (place k (i + 1))
    next_in i lt =
        ap (λ (qs : List Point). has_point qs (place k (i + 1))) (nexts_are i
        ∙ ap (λ (s : Bool). if s then place k (i + 1) ∷ []
        else if i == length b.instrs then map (entry_point f) (targets b.term) else []) (lt-ltb i (length b.instrs) lt))
        ∙ one_there (place k (i + 1))

    run : (d i : ℕ) → i + suc d ≤ length b.instrs → Leads f [] (place k i) (place k (i + suc d))
    run zero i le =
        let same : i + 1 ≡ i + suc zero = omega arith in
        subst (λ (n : ℕ). Leads f [] (place k i) (place k n)) same
        (leads_at f [] (place k i) (place k (i + 1)) (next_in i (omega (arith, le))))
    run (suc d) i le =
        let same : (i + 1) + suc d ≡ i + suc (suc d) = omega arith in
        subst (λ (n : ℕ). Leads f [] (place k i) (place k n)) same
        (leads_on f [] (place k i) (place k (i + 1)) (place k ((i + 1) + suc d)) (next_in i (omega (arith, le))) refl
        (run d (i + 1) (omega (arith, le))))

    -- within a block
    pub within : (i j : ℕ) → i < j → j ≤ length b.instrs → Leads f [] (place k i) (place k j)
    within i j lt le =
        let same : i + suc (j - suc i) ≡ j = omega (arith, lt) in
        subst (λ (n : ℕ). Leads f [] (place k i) (place k n)) same (run (j - suc i) i (omega (arith, le, same)))

    has_target : (ts : List ℕ) (t : ℕ) → IsListed t ts → Has (map (entry_point f) ts) (entry_point f t)
    has_target [] t l = absurd l
    has_target (u ∷ ts) t (inl e) =
        or_left (same_point (entry_point f t) (entry_point f u)) (has_point (map (entry_point f) ts) (entry_point f t))
        (ap (λ (n : ℕ). same_point (entry_point f t) (entry_point f n)) (sym e) ∙ same_point-itself (entry_point f t))
    has_target (u ∷ ts) t (inr l) =
        or_right (same_point (entry_point f t) (entry_point f u)) (has_point (map (entry_point f) ts) (entry_point f t))
        (has_target ts t l)

    jumps_to : (t : ℕ) → IsListed t (targets b.term) → Has (nexts f (place k (length b.instrs))) (entry_point f t)
    jumps_to t l =
        ap (λ (qs : List Point). has_point qs (entry_point f t)) (nexts_are (length b.instrs)
        ∙ (λ z. if le-ltb (length b.instrs) (length b.instrs) (omega arith) z then place k (length b.instrs + 1) ∷ []
        else if eq_itself (length b.instrs) z then map (entry_point f) (targets b.term) else []))
        ∙ has_target (targets b.term) t l

    -- out of a block
    leaves : (i t : ℕ) (q : Point) → i ≤ length b.instrs → IsListed t (targets b.term)
        → (entry_point f t ≡ q) ⊎ Leads f [] (entry_point f t) q → Leads f [] (place k i) q
    leaves i t q le listed behind = ⊎_elim
        (λ (lt : i < length b.instrs).
        leads_join (place k i) (place k (length b.instrs)) q (within i (length b.instrs) lt (omega arith)) last)
        (λ (ge : length b.instrs ≤ i).
        let same : length b.instrs ≡ i = omega (arith, le, ge) in
        subst (λ (n : ℕ). Leads f [] (place k n) q) same last)
        (cases_lt i (length b.instrs))
      where
        last : Leads f [] (place k (length b.instrs)) q
        last = ⊎_elim
            (λ (e : entry_point f t ≡ q).
            subst (Leads f [] (place k (length b.instrs))) e
            (leads_at f [] (place k (length b.instrs)) (entry_point f t) (jumps_to t listed)))
            (λ (l : Leads f [] (entry_point f t) q).
            leads_on f [] (place k (length b.instrs)) (entry_point f t) q (jumps_to t listed) refl l)
            behind

  -- from any point of the first block
  pub path_on : (k j : ℕ) → Reaches f k j → (i : ℕ) (q : Point)
      → ((b : Block) → slice_get f.blocks k ≡ Some b → i ≤ length b.instrs)
      → (place j 0 ≡ q) ⊎ Leads f [] (place j 0) q → Leads f [] (place k i) q
  path_on k _ (Edge _ b t got listed) i q low behind = leaves k b got i t q (low b got) listed behind
  path_on k j (More _ b t _ got listed r) i q low behind =
      leaves k b got i t q (low b got) listed
      (inr (path_on (position_of f t) j r 0 q (λ c e. omega arith) behind))

-- ---- functions with the same edges

-- a block's label, and where its edges lead
abbrev pub way_of : Block → ℕ × List ℕ
way_of b = (b.label, targets b.term)

pub first_mapped : {A B : Type 0} (h : A → B) (test : B → Bool) (xs : List A)
    → first_where (λ x. test (h x)) xs ≡ first_where test (map h xs)
first_mapped h test [] = refl
first_mapped h test (x ∷ xs) =
    ap (λ (o : Option ℕ). if test (h x) then Some 0 else option_map suc o) (first_mapped h test xs)

module _ (f g : Function) (same : map way_of g.blocks ≡ map way_of f.blocks) where
  positions_same : (t : ℕ) → position_of g t ≡ position_of f t
  positions_same t = λ i. unwrap_or (firsts i) (lengths i)
    where
      firsts : first_where (λ (b : Block). b.label == t) g.blocks ≡ first_where (λ (b : Block). b.label == t) f.blocks
      firsts =
          first_mapped way_of (λ (w : ℕ × List ℕ). w.0 == t) g.blocks
          ∙ ap (first_where (λ (w : ℕ × List ℕ). w.0 == t)) same
          ∙ sym (first_mapped way_of (λ (w : ℕ × List ℕ). w.0 == t) f.blocks)

      lengths : length g.blocks ≡ length f.blocks
      lengths = sym (length-map g.blocks way_of) ∙ ap length same ∙ length-map f.blocks way_of

  record HasWay (k : ℕ) (b : Block) : Type 0 where
    block : Block
    got : slice_get g.blocks k ≡ Some block
    targets_are : targets block.term ≡ targets b.term

  way_there : (k : ℕ) (b : Block) → slice_get f.blocks k ≡ Some b → HasWay k b
  way_there k b e = on (slice_get g.blocks k) refl both
    where
      both : option_map way_of (slice_get g.blocks k) ≡ Some (way_of b)
      both =
          sym (slice_get-map way_of g.blocks k) ∙ ap (λ (ws : List (ℕ × List ℕ)). slice_get ws k) same
          ∙ slice_get-map way_of f.blocks k ∙ ap (option_map way_of) e

      on : (o : Option Block) → slice_get g.blocks k ≡ o → option_map way_of o ≡ Some (way_of b) → HasWay k b
      on None d h = absurd (cc)
      on (Some c) d h =
          let ways : way_of c ≡ way_of b = cc in
          record { block = c; got = d; targets_are = ap (λ (w : ℕ × List ℕ). w.1) ways }

  pub reaches_same : (k j : ℕ) → Reaches f k j → Reaches g k j
  reaches_same k _ (Edge _ b t got listed) =
      let x = way_there k b got in
      subst (Reaches g k) (positions_same t)
      (Edge k x.block t x.got (subst (IsListed t) (sym x.targets_are) listed))
  reaches_same k j (More _ b t _ got listed r) =
      let x = way_there k b got in
      More k x.block t j x.got (subst (IsListed t) (sym x.targets_are) listed)
      (subst (λ (n : ℕ). Reaches g n j) (sym (positions_same t)) (reaches_same (position_of f t) j r))
