-- Rows made of two rows.
use Rattle.std.proofs.Common.{◌≡◌, ℕ, zero, suc, ◌+◌, List, [], ◌∷◌, Option, Some, None, refl, sym, ap, ◌∙◌, subst, ⊎_elim, inl, inr, arith}
use Rattle.std.specs.Prelude.{◌↔◌, ◌⊎◌, bit_and, bit_or, option_map, slice_get, unwrap_or}
use Rattle.std.proofs.lemmas.Option.{slice_get-map}
use Rattle.flow_bits.specs.Bits.{HasBit}
use Rattle.ir_paths.specs.declared.point.Point.{Point}
use Rattle.flow_reach.specs.Reached.{begins_at, pass_at, stops_at}
use Rattle.flow_reach.specs.declared.question.Pass.{Pass}
use Rattle.frame_classes.specs.Rows.{common, joined, kept_of, kept_rows, pass_by, passes_by, row_at, touching, touching_rows, word_in, zipped, zipped_rows}
use Rattle.frame_slots.proofs.Bits.{both_bits, common_bit, left_bit, no_bit, one_bit, right_bit}
use Rattle.frame_slots.specs.Words.{word_at_point}

zipped_at : {X : Type 0} (make : ℕ → ℕ → X) (n : ℕ) (row other : List ℕ) (k : ℕ) → slice_get (zipped make n row other) k ≡ option_map (λ w. make w (word_in other (n + k))) (slice_get row k)
zipped_at make n [] other k = refl
zipped_at make n (w ∷ row) other zero = let z : n ≡ n + 0 = omega arith in ap (λ (m : ℕ). Some (make w (word_in other m))) z
zipped_at make n (w ∷ row) other (suc k) =
    let z : n + 1 + k ≡ n + suc k = omega arith in
    zipped_at make (n + 1) row other k ∙ ap (λ (m : ℕ). option_map (λ w. make w (word_in other m)) (slice_get row k)) z

rows_at : {X : Type 0} (make : ℕ → ℕ → X) (n : ℕ) (rows others : List (List ℕ)) (k : ℕ) → slice_get (zipped_rows make n rows others) k ≡ option_map (λ row. zipped make 0 row (row_at others (n + k))) (slice_get rows k)
rows_at make n [] others k = refl
rows_at make n (row ∷ rows) others zero = let z : n ≡ n + 0 = omega arith in ap (λ (m : ℕ). Some (zipped make 0 row (row_at others m))) z
rows_at make n (row ∷ rows) others (suc k) =
    let z : n + 1 + k ≡ n + suc k = omega arith in
    rows_at make (n + 1) rows others k ∙ ap (λ (m : ℕ). option_map (λ row. zipped make 0 row (row_at others m)) (slice_get rows k)) z

-- ---- a place of the rows

-- what stands at a point of rows
abbrev pub at_point : {X : Type 0} → List (List X) → Point → Option X
at_point rows p = slice_get (unwrap_or (slice_get rows p.block) []) p.at

pub zip_at : {X : Type 0} (make : ℕ → ℕ → X) (rows others : List (List ℕ)) (p : Point) →
    at_point (zipped_rows make 0 rows others) p ≡ option_map (λ w. make w (word_at_point others p)) (at_point rows p)
zip_at {X} make rows others p =
    ap (λ (o : Option (List X)). slice_get (unwrap_or o []) p.at) (rows_at make 0 rows others p.block)
    ∙ by (slice_get rows p.block)
  where
    z : 0 + p.block ≡ p.block
    z = omega arith

    y : 0 + p.at ≡ p.at
    y = omega arith

    by : (o : Option (List ℕ)) → slice_get (unwrap_or (option_map (λ row. zipped make 0 row (row_at others (0 + p.block))) o) []) p.at ≡ option_map (λ w. make w (word_at_point others p)) (slice_get (unwrap_or o []) p.at)
    by None = refl
    by (Some row) =
        zipped_at make 0 row (row_at others (0 + p.block)) p.at
        ∙ ap (λ (m : ℕ). option_map (λ w. make w (word_in (row_at others (0 + p.block)) m)) (slice_get row p.at)) y
        ∙ ap (λ (m : ℕ). option_map (λ w. make w (word_in (row_at others m) p.at)) (slice_get row p.at)) z

-- a word with a bit stands in its row
pub bit_inside : (rows : List (List ℕ)) (p : Point) (c : ℕ) → HasBit (word_at_point rows p) c → (w : ℕ) × (at_point rows p ≡ Some w)
bit_inside rows p c h = by (at_point rows p) refl h
  where
    by : (o : Option ℕ) → at_point rows p ≡ o → HasBit (unwrap_or o 0) c → (w : ℕ) × (at_point rows p ≡ Some w)
    by None e h = absurd (no_bit c h)
    by (Some w) e h = (w, e)

word_of : (o : Option ℕ) (w : ℕ) → o ≡ Some w → unwrap_or o 0 ≡ w
word_of o w e = ap (λ (x : Option ℕ). unwrap_or x 0) e

-- ---- the bits of both

pub common_sound : (a b : List (List ℕ)) (p : Point) (c : ℕ) → HasBit (word_at_point (common a b) p) c → HasBit (word_at_point a p) c × HasBit (word_at_point b p) c
common_sound a b p c h = by (at_point a p) refl (subst (λ (o : Option ℕ). HasBit (unwrap_or o 0) c) (zip_at bit_and a b p) h)
  where
    by : (o : Option ℕ) → at_point a p ≡ o → HasBit (unwrap_or (option_map (λ w. bit_and w (word_at_point b p)) o) 0) c → HasBit (word_at_point a p) c × HasBit (word_at_point b p) c
    by None e h = absurd (no_bit c h)
    by (Some w) e h = let two = both_bits w (word_at_point b p) c h in (subst (λ (x : ℕ). HasBit x c) (sym (word_of (at_point a p) w e)) two.0, two.1)

pub common_complete : (a b : List (List ℕ)) (p : Point) (c : ℕ) → HasBit (word_at_point a p) c → HasBit (word_at_point b p) c → HasBit (word_at_point (common a b) p) c
common_complete a b p c ha hb =
    let i = bit_inside a p c ha in
    subst (λ (o : Option ℕ). HasBit (unwrap_or o 0) c) (sym (zip_at bit_and a b p ∙ ap (option_map (λ w. bit_and w (word_at_point b p))) i.1))
    (common_bit i.0 (word_at_point b p) c (subst (λ (x : ℕ). HasBit x c) (word_of (at_point a p) i.0 i.1) ha) hb)

pub joined_sound : (a b : List (List ℕ)) (p : Point) (c : ℕ) → HasBit (word_at_point (joined a b) p) c → HasBit (word_at_point a p) c ⊎ HasBit (word_at_point b p) c
joined_sound a b p c h = by (at_point a p) refl (subst (λ (o : Option ℕ). HasBit (unwrap_or o 0) c) (zip_at bit_or a b p) h)
  where
    by : (o : Option ℕ) → at_point a p ≡ o → HasBit (unwrap_or (option_map (λ w. bit_or w (word_at_point b p)) o) 0) c → HasBit (word_at_point a p) c ⊎ HasBit (word_at_point b p) c
    by None e h = absurd (no_bit c h)
    by (Some w) e h = ⊎_elim (λ l. inl (subst (λ (x : ℕ). HasBit x c) (sym (word_of (at_point a p) w e)) l)) (λ r. inr r) (one_bit w (word_at_point b p) c h)

joined_is : (a b : List (List ℕ)) (p : Point) (w : ℕ) → at_point a p ≡ Some w → word_at_point (joined a b) p ≡ bit_or w (word_at_point b p)
joined_is a b p w e = ap (λ (o : Option ℕ). unwrap_or o 0) (zip_at bit_or a b p ∙ ap (option_map (λ w. bit_or w (word_at_point b p))) e)

pub joined_left : (a b : List (List ℕ)) (p : Point) (c : ℕ) → HasBit (word_at_point a p) c → HasBit (word_at_point (joined a b) p) c
joined_left a b p c h =
    let i = bit_inside a p c h in
    subst (λ (x : ℕ). HasBit x c) (sym (joined_is a b p i.0 i.1)) (left_bit i.0 (word_at_point b p) c (subst (λ (x : ℕ). HasBit x c) (word_of (at_point a p) i.0 i.1) h))

pub joined_right : (a b : List (List ℕ)) (p : Point) (c w : ℕ) → at_point a p ≡ Some w → HasBit (word_at_point b p) c → HasBit (word_at_point (joined a b) p) c
joined_right a b p c w e h = subst (λ (x : ℕ). HasBit x c) (sym (joined_is a b p w e)) (right_bit w (word_at_point b p) c h)

-- ---- what is touched

touching_is : (mask : ℕ) (a b : List (List ℕ)) (p : Point) (w : ℕ) → at_point a p ≡ Some w → word_at_point (touching_rows mask a b) p ≡ bit_or w (bit_and (word_at_point b p) mask)
touching_is mask a b p w e = ap (λ (o : Option ℕ). unwrap_or o 0) (zip_at (touching mask) a b p ∙ ap (option_map (λ w. touching mask w (word_at_point b p))) e)

pub touching_sound : (mask : ℕ) (a b : List (List ℕ)) (p : Point) (c : ℕ) → HasBit (word_at_point (touching_rows mask a b) p) c → HasBit (word_at_point a p) c ⊎ (HasBit (word_at_point b p) c × HasBit mask c)
touching_sound mask a b p c h = by (at_point a p) refl (subst (λ (o : Option ℕ). HasBit (unwrap_or o 0) c) (zip_at (touching mask) a b p) h)
  where
    by : (o : Option ℕ) → at_point a p ≡ o → HasBit (unwrap_or (option_map (λ w. touching mask w (word_at_point b p)) o) 0) c → HasBit (word_at_point a p) c ⊎ (HasBit (word_at_point b p) c × HasBit mask c)
    by None e h = absurd (no_bit c h)
    by (Some w) e h = ⊎_elim
        (λ l. inl (subst (λ (x : ℕ). HasBit x c) (sym (word_of (at_point a p) w e)) l))
        (λ r. inr (both_bits (word_at_point b p) mask c r))
        (one_bit w (bit_and (word_at_point b p) mask) c h)

pub touching_left : (mask : ℕ) (a b : List (List ℕ)) (p : Point) (c : ℕ) → HasBit (word_at_point a p) c → HasBit (word_at_point (touching_rows mask a b) p) c
touching_left mask a b p c h =
    let i = bit_inside a p c h in
    subst (λ (x : ℕ). HasBit x c) (sym (touching_is mask a b p i.0 i.1))
    (left_bit i.0 (bit_and (word_at_point b p) mask) c (subst (λ (x : ℕ). HasBit x c) (word_of (at_point a p) i.0 i.1) h))

pub touching_right : (mask : ℕ) (a b : List (List ℕ)) (p : Point) (c w : ℕ) → at_point a p ≡ Some w → HasBit (word_at_point b p) c → HasBit mask c → HasBit (word_at_point (touching_rows mask a b) p) c
touching_right mask a b p c w e h k =
    subst (λ (x : ℕ). HasBit x c) (sym (touching_is mask a b p w e)) (right_bit w (bit_and (word_at_point b p) mask) c (common_bit (word_at_point b p) mask c h k))

-- ---- rows of which some questions are kept

kept_at : (mask : ℕ) (rows : List (List ℕ)) (p : Point) → at_point (kept_rows mask rows) p ≡ option_map (λ w. bit_and w mask) (at_point rows p)
kept_at mask rows p = ap (λ (o : Option (List ℕ)). slice_get (unwrap_or o []) p.at) (slice_get-map (kept_of mask) rows p.block) ∙ by (slice_get rows p.block)
  where
    by : (o : Option (List ℕ)) → slice_get (unwrap_or (option_map (kept_of mask) o) []) p.at ≡ option_map (λ w. bit_and w mask) (slice_get (unwrap_or o []) p.at)
    by None = refl
    by (Some row) = slice_get-map (λ (w : ℕ). bit_and w mask) row p.at

pub kept_sound : (mask : ℕ) (rows : List (List ℕ)) (p : Point) (c : ℕ) → HasBit (word_at_point (kept_rows mask rows) p) c → HasBit (word_at_point rows p) c × HasBit mask c
kept_sound mask rows p c h = by (at_point rows p) refl (subst (λ (o : Option ℕ). HasBit (unwrap_or o 0) c) (kept_at mask rows p) h)
  where
    by : (o : Option ℕ) → at_point rows p ≡ o → HasBit (unwrap_or (option_map (λ w. bit_and w mask) o) 0) c → HasBit (word_at_point rows p) c × HasBit mask c
    by None e h = absurd (no_bit c h)
    by (Some w) e h = let two = both_bits w mask c h in (subst (λ (x : ℕ). HasBit x c) (sym (word_of (at_point rows p) w e)) two.0, two.1)

pub kept_complete : (mask : ℕ) (rows : List (List ℕ)) (p : Point) (c : ℕ) → HasBit (word_at_point rows p) c → HasBit mask c → HasBit (word_at_point (kept_rows mask rows) p) c
kept_complete mask rows p c h k = subst (λ (o : Option ℕ). HasBit (unwrap_or o 0) c) (sym (kept_at mask rows p)) (by (at_point rows p) h)
  where
    by : (o : Option ℕ) → HasBit (unwrap_or o 0) c → HasBit (unwrap_or (option_map (λ w. bit_and w mask) o) 0) c
    by None h = absurd (no_bit c h)
    by (Some w) h = common_bit w mask c h k

-- ---- passes

abbrev pub no_pass : Pass
no_pass = record { stops = 0; begins = 0 }

pass_is : (stops begins : List (List ℕ)) (p : Point) → pass_at (passes_by stops begins) p ≡ unwrap_or (option_map (λ w. pass_by w (word_at_point begins p)) (at_point stops p)) no_pass
pass_is stops begins p = ap (λ (o : Option Pass). unwrap_or o no_pass) (zip_at pass_by stops begins p)

pub stops_are : (stops begins : List (List ℕ)) (p : Point) (c : ℕ) → HasBit (stops_at (passes_by stops begins) p) c ↔ HasBit (word_at_point stops p) c
stops_are stops begins p c = (λ h. subst (λ (w : ℕ). HasBit w c) same h, λ h. subst (λ (w : ℕ). HasBit w c) (sym same) h)
  where
    by : (o : Option ℕ) → (unwrap_or (option_map (λ w. pass_by w (word_at_point begins p)) o) no_pass).stops ≡ unwrap_or o 0
    by None = refl
    by (Some w) = refl

    same : stops_at (passes_by stops begins) p ≡ word_at_point stops p
    same = ap (λ (x : Pass). x.stops) (pass_is stops begins p) ∙ by (at_point stops p)

pub begins_sound : (stops begins : List (List ℕ)) (p : Point) (c : ℕ) → HasBit (begins_at (passes_by stops begins) p) c → HasBit (word_at_point begins p) c
begins_sound stops begins p c h = by (at_point stops p) (subst (λ (x : Pass). HasBit x.begins c) (pass_is stops begins p) h)
  where
    by : (o : Option ℕ) → HasBit (unwrap_or (option_map (λ w. pass_by w (word_at_point begins p)) o) no_pass).begins c → HasBit (word_at_point begins p) c
    by None h = absurd (no_bit c h)
    by (Some w) h = h

pub begins_complete : (stops begins : List (List ℕ)) (p : Point) (c w : ℕ) → at_point stops p ≡ Some w → HasBit (word_at_point begins p) c → HasBit (begins_at (passes_by stops begins) p) c
begins_complete stops begins p c w e h =
    subst (λ (x : Pass). HasBit x.begins c) (sym (pass_is stops begins p ∙ ap (λ (o : Option ℕ). unwrap_or (option_map (λ w. pass_by w (word_at_point begins p)) o) no_pass) e)) h
