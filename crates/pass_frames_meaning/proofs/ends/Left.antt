-- Which branches leave a window, by the blocks of its save and its suspend.
use Rattle.std.proofs.Common.{◌≡◌, ◌⊎◌, inl, inr, ⊎_elim, ℕ, ◌<◌, ◌≤◌, Bool, true, false, Some, refl, sym, ap, ◌∙◌, subst, arith, ◌&&◌}
use Rattle.std.proofs.lemmas.Bool.{and_parts}
use Rattle.std.specs.Prelude.{not, slice_get}
use Rattle.pass_frames_proof.proofs.ir_laws.facts.Truth.{and_both, either}
use Rattle.pass_frames_proof.specs.ir_model.declared.module.Function.{Function}
use Rattle.pass_frames_proof.proofs.ir_paths.Search.{same_point-itself, same_point-same}
use Rattle.pass_frames_proof.specs.ir_paths.Facts.{IsWindow}
use Rattle.pass_frames_proof.specs.ir_paths.Paths.{has_point, same_point}
use Rattle.pass_frames_proof.specs.ir_paths.Windows.{IsInWindow, leaves}
use Rattle.pass_frames_proof.specs.ir_paths.declared.point.Point.{Point}
use Rattle.pass_frames_proof.specs.ir_paths.declared.point.Window.{Window}
use Rattle.pass_frames_meaning.proofs.ends.Chains.{Crossing, IsChain, IsOff, IsWay, Straight, chain_join, leads_of, len, pt, way_of}
use Rattle.pass_frames_proof.specs.Passes.{block_at}

not_same : (p q : Point) → same_point p q ≡ false → p ≡ q → ⊥
not_same p q h e = let t = ap (λ (u : Point). same_point p u) (sym e) ∙ same_point-itself p in absurd (cc)

differ : (p q : Point) → (p ≡ q → ⊥) → same_point p q ≡ false
differ p q h = on (same_point p q) refl
  where
    on : (t : Bool) → same_point p q ≡ t → t ≡ false
    on true e = absurd (h (same_point-same p q e))
    on false e = refl

positive : (n : ℕ) → (n ≡ 0 → ⊥) → 0 < n
positive n z = omega (arith, z)

is_false : (t : Bool) → not t ≡ true → t ≡ true → ⊥
is_false true h e = cc
is_false false h e = cc

is_not : (t : Bool) → (t ≡ true → ⊥) → not t ≡ true
is_not true h = absurd (h refl)
is_not false h = refl

-- a save at a place of one block, and its suspend at a place of another one
module _ (f : Function) (a na b nb : ℕ) (lower : na < len f a) (upper : nb < len f b)
    (here : slice_get f.blocks a ≡ Some (block_at f a)) (there : slice_get f.blocks b ≡ Some (block_at f b)) where
  la : na ≤ len f a
  la = omega (arith, lower)

  lb : nb ≤ len f b
  lb = omega (arith, upper)

  abbrev Off : ℕ → ℕ → Type 0
  Off = IsOff f a na b nb la lb

  abbrev Way : (i m j n : ℕ) → Type 0
  Way = IsWay f a na b nb la lb

  -- the suspend stands behind the save, in one block
  abbrev pub IsBefore : Type 0
  IsBefore = (a ≡ b) × (na < nb)

  -- from the save to the end of a block, and from that to the suspend
  pub record IsOnEnd (k : ℕ) : Type 0 where
    pub apart : (a ≡ b) × (na < nb) → ⊥
    pub from : (k ≡ a) ⊎ (((k ≡ a → ⊥) × (k ≡ b → ⊥)) × IsChain f a b a k)
    pub to : IsChain f a b k b

  module _ (k : ℕ) (got : slice_get f.blocks k ≡ Some (block_at f k)) where
    from_of : Way a na k (len f k) → ((a ≡ b) × (na < nb) → ⊥)
        × ((k ≡ a) ⊎ (((k ≡ a → ⊥) × (k ≡ b → ⊥)) × IsChain f a b a k))
    from_of (Straight same lt most off) = (
      λ z. (off nb z.1 (subst (λ (u : ℕ). nb < len f u) (sym z.0 ∙ same) upper)).1 z.0 refl,
      inl (sym same),
    )
    from_of (Crossing rest chain to) = (
      λ z. (rest nb z.1 (subst (λ (u : ℕ). nb ≤ len f u) (sym z.0) lb)).1 z.0 refl,
      inr (
        (
          (λ e. (to na (subst (λ (u : ℕ). na < len f u) (sym e) lower)).0 e refl),
          (λ e. (to nb (subst (λ (u : ℕ). nb < len f u) (sym e) upper)).1 e refl),
        ),
        chain,
      ),
    )

    to_of : Way k (len f k) b nb → IsChain f a b k b
    to_of (Straight same lt most off) = absurd (past same lt)
      where
        past : k ≡ b → len f k < nb → ⊥
        past e lt =
            let z : len f b < nb = subst (λ (u : ℕ). len f u < nb) e lt in
            omega (arith, z, upper)
    to_of (Crossing rest chain to) = chain

    pub end_of : IsInWindow f (pt a na) (pt b nb) (pt k (len f k)) → IsOnEnd k
    end_of w =
        let one = from_of (way_of f a na b nb la lb w.from_save.between a na k (len f k) w.from_save.is_path) in
        record {
          apart = one.0;
          from = one.1;
          to = to_of (way_of f a na b nb la lb w.to_suspend.between k (len f k) b nb w.to_suspend.is_path);
        }

    -- behind the save no suspend stands in its block
    behind_off : ((a ≡ b) × (na < nb) → ⊥) → (l : ℕ) → na < l → Off a l
    behind_off apart l low = (
      λ e d. let z : l ≡ na = d in omega (arith, z, low),
      λ e d. apart (e, subst (λ (u : ℕ). na < u) d low),
    )

    -- in front of the suspend no save stands in its block
    ahead_off : ((a ≡ b) × (na < nb) → ⊥) → (l : ℕ) → l < nb → Off b l
    ahead_off apart l low = (
      λ e d. apart (sym e, subst (λ (u : ℕ). u < nb) d low),
      λ e d. let z : l ≡ nb = d in omega (arith, z, low),
    )

    free_off : (m : ℕ) → (m ≡ a → ⊥) × (m ≡ b → ⊥) → (l : ℕ) → Off m l
    free_off m free l = ((λ e d. free.0 e), (λ e d. free.1 e))

    from_way : ((a ≡ b) × (na < nb) → ⊥) → (k ≡ a) ⊎ (((k ≡ a → ⊥) × (k ≡ b → ⊥)) × IsChain f a b a k)
        → Way a na k (len f k)
    from_way apart (inl e) =
        Straight (sym e) (subst (λ (u : ℕ). na < len f u) (sym e) lower) (omega arith)
        (λ l low high. behind_off apart l low)
    from_way apart (inr z) =
        Crossing (λ l low high. behind_off apart l low) z.1 (λ l low. free_off k z.0 l)

    to_way : IsOnEnd k → Way k (len f k) b nb
    to_way e =
        Crossing (λ l low high. absurd (omega (arith, low, high))) e.to (λ l low. ahead_off e.apart l low)

    not_instr : (c nc : ℕ) → nc < len f c → pt k (len f k) ≡ pt c nc → ⊥
    not_instr c nc lt e =
        let block : k ≡ c = ap (λ (u : Point). u.block) e in
        let at : len f k ≡ nc = ap (λ (u : Point). u.at) e in
        let z : len f c ≡ nc = ap (len f) (sym block) ∙ at in
        omega (arith, z, lt)

    pub to_end : IsOnEnd k → IsInWindow f (pt a na) (pt b nb) (pt k (len f k))
    to_end e = record {
      is_not_save = differ (pt k (len f k)) (pt a na) (not_instr a na lower);
      is_not_suspend = differ (pt k (len f k)) (pt b nb) (not_instr b nb upper);
      from_save = leads_of f a na b nb la lb a na k (len f k) here got la (omega arith) (from_way e.apart e.from);
      to_suspend = leads_of f a na b nb la lb k (len f k) b nb got there (omega arith) lb (to_way e);
    }

  -- ---- the first point of a block

  -- blocks lead to it from the save, and from it to the suspend, without either
  pub record IsOnStart (j : ℕ) : Type 0 where
    pub other : j ≡ a → ⊥
    pub from : IsChain f a b a j
    pub to : IsChain f a b j b

  module _ (j : ℕ) (got : slice_get f.blocks j ≡ Some (block_at f j)) (apart : (a ≡ b) × (na < nb) → ⊥) where
    module _ (away : j ≡ b → ⊥) where
      chain_from : Way a na j 0 → IsChain f a b a j
      chain_from (Straight same lt most off) = absurd (omega (arith, lt))
      chain_from (Crossing rest chain to) = chain

      to_from : (j ≡ a → na ≡ 0 → ⊥) → Way j 0 b nb → (j ≡ a → ⊥) × IsChain f a b j b
      to_from not_save (Straight same lt most off) = absurd (away same)
      to_from not_save (Crossing rest chain to) = (λ e. save_there e, chain)
        where
          save_there : j ≡ a → ⊥
          save_there e = ⊎_elim (λ z. not_save e z)
              (λ z. (rest na (positive na z) (subst (λ (u : ℕ). na ≤ len f u) (sym e) la)).0 e refl) (either na 0)

      pub start_of : IsInWindow f (pt a na) (pt b nb) (pt j 0) → IsOnStart j
      start_of w =
          let two = to_from (λ e d. not_same (pt j 0) (pt a na) w.is_not_save (λ i. pt (e i) (sym d i)))
          (way_of f a na b nb la lb w.to_suspend.between j 0 b nb w.to_suspend.is_path) in
          record {
            other = two.0;
            from = chain_from (way_of f a na b nb la lb w.from_save.between a na j 0 w.from_save.is_path);
            to = two.1;
          }

    save_off : (l : ℕ) → na < l → Off a l
    save_off l low = (
      λ e d. let z : l ≡ na = d in omega (arith, z, low),
      λ e d. apart (e, subst (λ (u : ℕ). na < u) d low),
    )

    suspend_off : (l : ℕ) → l < nb → Off b l
    suspend_off l low = (
      λ e d. apart (sym e, subst (λ (u : ℕ). u < nb) d low),
      λ e d. let z : l ≡ nb = d in omega (arith, z, low),
    )

    to_start : (away : j ≡ b → ⊥) → IsOnStart j → IsInWindow f (pt a na) (pt b nb) (pt j 0)
    to_start away e = record {
      is_not_save = differ (pt j 0) (pt a na) (λ d. e.other (ap (λ (u : Point). u.block) d));
      is_not_suspend = differ (pt j 0) (pt b nb) (λ d. away (ap (λ (u : Point). u.block) d));
      from_save = leads_of f a na b nb la lb a na j 0 here got la (omega arith)
          (Crossing (λ l low high. save_off l low) e.from (λ l low. absurd (omega (arith, low))));
      to_suspend = leads_of f a na b nb la lb j 0 b nb got there (omega arith) lb
          (Crossing (λ l low high. ((λ x d. e.other x), (λ x d. away x))) e.to (λ l low. suspend_off l low));
    }

    -- in the block of the suspend, in front of it
    to_own : (e : j ≡ b) → 0 < nb → IsChain f a b a b → IsInWindow f (pt a na) (pt b nb) (pt j 0)
    to_own e lt chain = record {
      is_not_save = differ (pt j 0) (pt a na) (λ d. apart (
        sym (ap (λ (u : Point). u.block) d) ∙ e,
        subst (λ (u : ℕ). u < nb) (ap (λ (u : Point). u.at) d) lt,
      ));
      is_not_suspend = differ (pt j 0) (pt b nb)
          (λ d. let z : 0 ≡ nb = ap (λ (u : Point). u.at) d in omega (arith, z, lt));
      from_save = leads_of f a na b nb la lb a na j 0 here got la (omega arith)
          (Crossing (λ l low high. save_off l low) (subst (IsChain f a b a) (sym e) chain)
          (λ l low. absurd (omega (arith, low))));
      to_suspend = leads_of f a na b nb la lb j 0 b nb got there (omega arith) lb
          (Straight e lt lb (λ l low high. subst (λ (u : ℕ). Off u l) (sym e) (suspend_off l high)));
    }

  -- ---- the branch

  -- it comes from a block at whose end the window is, and leads neither into the suspend's block nor where the window
  -- still is
  pub record IsOut (k j : ℕ) : Type 0 where
    pub on : IsOnEnd k
    pub away : j ≡ b → ⊥
    pub out : IsOnStart j → ⊥

  module _ (w : Window) (save : w.save ≡ pt a na) (suspend : w.suspend ≡ pt b nb) (right : IsWindow f w) (k j : ℕ)
      (got : slice_get f.blocks k ≡ Some (block_at f k)) (to : slice_get f.blocks j ≡ Some (block_at f j)) where
    in_one : (p : Point) → has_point w.inside p ≡ true → IsInWindow f (pt a na) (pt b nb) p
    in_one p h = subst (λ (u : Point × Point). IsInWindow f u.0 u.1 p) (λ i. (save i, suspend i)) ((right.inside p).0 h)

    has_one : (p : Point) → IsInWindow f (pt a na) (pt b nb) p → has_point w.inside p ≡ true
    has_one p h =
        (right.inside p).1
        (subst (λ (u : Point × Point). IsInWindow f u.0 u.1 p) (λ i. (sym save i, sym suspend i)) h)

    -- from the save to the suspend, over blocks
    whole_chain : IsOnEnd k → IsChain f a b a b
    whole_chain e = on e.from
      where
        on : (k ≡ a) ⊎ (((k ≡ a → ⊥) × (k ≡ b → ⊥)) × IsChain f a b a k) → IsChain f a b a b
        on (inl d) = subst (λ (u : ℕ). IsChain f a b u b) d e.to
        on (inr z) = chain_join f a b a k b z.1 z.0.0 z.0.1 e.to

    out_of : leaves (pt k (len f k)) (pt j 0) w ≡ true → IsOut k j
    out_of h =
        let both = and_parts (has_point w.inside (pt k (len f k)) && not (has_point w.inside (pt j 0)))
        (not (same_point (pt j 0) w.suspend)) h in
        let two = and_parts (has_point w.inside (pt k (len f k))) (not (has_point w.inside (pt j 0))) both.0 in
        let on : IsOnEnd k = end_of k got (in_one (pt k (len f k)) two.0) in
        let away : j ≡ b → ⊥ = λ e. ⊎_elim
        (λ (z : nb ≡ 0). is_false (same_point (pt j 0) w.suspend) both.1
        (ap (same_point (pt j 0)) suspend ∙ (λ i. same_point (pt j 0) (pt (sym e i) (z i)))
        ∙ same_point-itself (pt j 0)))
        (λ (z : nb ≡ 0 → ⊥). is_false (has_point w.inside (pt j 0)) two.1
        (has_one (pt j 0) (to_own j to on.apart e (positive nb z) (whole_chain on)))) (either nb 0) in
        record {
          on = on;
          away = away;
          out = λ s. is_false (has_point w.inside (pt j 0)) two.1 (has_one (pt j 0) (to_start j to on.apart away s));
        }

    to_out : IsOut k j → leaves (pt k (len f k)) (pt j 0) w ≡ true
    to_out o =
        and_both (has_point w.inside (pt k (len f k)) && not (has_point w.inside (pt j 0)))
        (not (same_point (pt j 0) w.suspend))
        (and_both (has_point w.inside (pt k (len f k))) (not (has_point w.inside (pt j 0)))
        (has_one (pt k (len f k)) (to_end k got o.on))
        (is_not (has_point w.inside (pt j 0)) (λ h. o.out (start_of j to o.on.apart o.away (in_one (pt j 0) h)))))
        (is_not (same_point (pt j 0) w.suspend)
        (λ h. o.away (ap (λ (u : Point). u.block) (same_point-same (pt j 0) w.suspend h ∙ suspend))))

    pub leaves_if : (leaves (pt k (len f k)) (pt j 0) w ≡ true → IsOut k j)
        × (IsOut k j → leaves (pt k (len f k)) (pt j 0) w ≡ true)
    leaves_if = (out_of, to_out)
