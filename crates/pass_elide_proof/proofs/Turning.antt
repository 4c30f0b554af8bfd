-- Rights of frames where a coroutine begins in both runs.
use Rattle.std.proofs.Common.{◌≡◌, ◌≢◌, ◌<◌, ◌≤◌, ◌+◌, inl, ⊎_elim, ℕ, zero, suc, Bool, true, false, not, List, [], ◌∷◌, ◌++◌, length, refl, sym, ap, ◌∙◌, subst, arith, if◌then◌else◌, ◌&&◌, ◌||◌, ◌==◌}
use Rattle.std.proofs.lemmas.Bool.{and_from, and_left, and_right, cases_eq, cases_lt, eq-eqb, le-leb, le-ltb, lt-ltb, ne_eqb}
use Rattle.std.specs.Prelude.{None, Option, Some, nat_le, nat_lt, option_and_then, option_map, slice_get}
use Rattle.pass_elide_proof.proofs.Alike.{allowed}
use Rattle.pass_elide_proof.specs.Counts.{counted}
use Rattle.pass_elide_proof.specs.Elision.{Elision, elided, framed}
use Rattle.pass_elide_proof.specs.Frames.{AreJudges}
use Rattle.pass_elide_proof.specs.Match.{AreElided}
use Rattle.pass_proofs.proofs.run_laws.access.Turned.{owned_reowns, worlds_turn}
use Rattle.pass_proofs.proofs.run_laws.memory.Written.{changed_elsewhere, same_some}
use Rattle.pass_proofs.proofs.run_laws.transfer.Places.{muted_at}
use Rattle.pass_proofs.specs.run_framed.Framed.{FramedGiven, covers, frame_rights, is_open, is_open_byte, judge_of, layout_of, meets_in}
use Rattle.pass_proofs.specs.run_laws.access.Changed.{home_block}
use Rattle.pass_proofs.specs.run_laws.access.Rights.{AreReowned, IsReowned, MayTurn}
use Rattle.pass_proofs.specs.run_laws.memory.Pointers.{Home, home_of}
use Rattle.pass_proofs.specs.run_laws.memory.Standing.{AreNullsKept, HasRights, IsOpen}
use Rattle.pass_proofs.specs.run_laws.transfer.Muted.{ended_if, muted}
use Rattle.pass_proofs.specs.run_laws.transfer.Transfer.{AreOver}
use Rattle.pass_proofs.specs.run_memory.Memory.{Rights, is_live, may_compare_at, owned_to, with_block}
use Rattle.pass_proofs.specs.run_memory.Pointers.{moved}
use Rattle.pass_proofs.specs.run_memory.declared.block.MemoryBlock.{MemoryBlock}
use Rattle.pass_proofs.specs.run_memory.declared.pointer.Offset.{Offset}
use Rattle.pass_proofs.specs.run_source.Source.{new_instance}
use Rattle.pass_proofs.specs.run_source.State.{last_from, numbered, or_else}
use Rattle.pass_proofs.specs.run_source.declared.state.Instance.{Instance}
use Rattle.pass_proofs.specs.run_source.declared.state.State.{State}
use Rattle.run_access_worked.proofs.Begun.{judge_more}

-- ---- an instance more, in another block

module _ (g : FramedGiven) (xs : List Instance) (x : Instance) (c : ℕ) (ne : x.block ≢ c) where
  uncovered : (k : ℕ) → covers g c k x ≡ false
  uncovered k = and_left _ _ (and_left _ _ (ne_eqb x.block c ne))

  judge_still : (k : ℕ) → judge_of g (xs ++ x ∷ []) c k ≡ judge_of g xs c k
  judge_still k = judge_more g xs x c k (uncovered k)

  pub open_still : (o len : ℕ) → is_open g (xs ++ x ∷ []) c o len ≡ is_open g xs c o len
  open_still o zero = refl
  open_still o (suc len) = λ i. is_open_byte g o (judge_still o i) && open_still (o + 1) len i

  pub met_still : (p : MemoryBlock) (o align : ℕ)
      → meets_in g p o align (judge_of g (xs ++ x ∷ []) c o) ≡ meets_in g p o align (judge_of g xs c o)
  met_still p o align = ap (meets_in g p o align) (judge_still o)

module _ (g h : FramedGiven) (xs ys : List Instance) (x y : Instance) (q : Home) (c : ℕ) (p v : MemoryBlock)
    (ne : x.block ≢ c) (other : y.block ≢ q.block) where
  pub allowed_still : HasRights (frame_rights g xs) (frame_rights h ys) q c p v
      → HasRights (frame_rights g (xs ++ x ∷ [])) (frame_rights h (ys ++ y ∷ [])) q c p v
  allowed_still old = record {
    opens = λ o len le closed.
        ap not (open_still h ys y q.block other (q.offset + o) len)
        ∙ old.opens o len le (ap not (sym (open_still g xs x c ne o len)) ∙ closed);
    aligned = λ o len align pos le closed ok met.
        met_still h ys y q.block other v (q.offset + o) align
        ∙ old.aligned o len align pos le (ap not (sym (open_still g xs x c ne o len)) ∙ closed) ok
        (sym (met_still g xs x c ne p o align) ∙ met);
    comparable = λ o le may. refl;
  }

-- ---- a block in which nothing began

module _ (g : FramedGiven) (xs : List Instance) (c : ℕ)
    (none : (i : ℕ) (x : Instance) → slice_get xs i ≡ Some x → x.block ≢ c) where
  no_last : (k n : ℕ) (zs : List Instance) → ((i : ℕ) (x : Instance) → slice_get zs i ≡ Some x → x.block ≢ c)
      → last_from (covers g c k) n zs ≡ None
  no_last k n [] away = refl
  no_last k n (z ∷ zs) away =
      λ j. or_else (no_last k (suc n) zs (λ i x at. away (suc i) x at) j)
      (if missed z.block z.start (layout_of g.layouts z.coroutine).size (away 0 z refl) j then Some n else None)
    where
      missed : (block start size : ℕ) → block ≢ c
          → ((block == c) && nat_le start k && nat_lt k (start + size)) ≡ false
      missed block start size ne = and_left _ _ (and_left _ _ (ne_eqb block c ne))

  pub unjudged : (k : ℕ) → judge_of g xs c k ≡ None
  unjudged k = ap (option_and_then (numbered xs)) (no_last k 0 xs none)

  pub all_open : (o len : ℕ) → is_open g xs c o len ≡ true
  all_open o zero = refl
  all_open o (suc len) = λ i. is_open_byte g o (unjudged o i) && all_open (o + 1) len i

-- ---- the block in which the last one began

last_new : (test : Instance → Bool) (x : Instance) → test x ≡ true → (n : ℕ) (xs : List Instance)
    → last_from test n (xs ++ x ∷ []) ≡ Some (n + length xs)
last_new test x holds n [] =
    let e : n ≡ n + 0 = omega arith in (λ j. if holds j then Some n else None) ∙ ap Some e
last_new test x holds n (y ∷ xs) =
    let e : suc n + length xs ≡ n + suc (length xs) = omega arith in
    (λ j. or_else (last_new test x holds (suc n) xs j) (if test y then Some n else None)) ∙ ap Some e

get_end : (xs : List Instance) (x : Instance) → slice_get (xs ++ x ∷ []) (length xs) ≡ Some x
get_end [] x = refl
get_end (y ∷ xs) x = get_end xs x

abbrev numbering : ℕ → Instance → ℕ × Instance
numbering i x = (i, x)

module _ (g : FramedGiven) (xs : List Instance) (func b : ℕ)
    (none : (i : ℕ) (x : Instance) → slice_get xs i ≡ Some x → x.block ≢ b) where
  abbrev x : Instance
  x = new_instance func b 0

  abbrev size : ℕ
  size = (layout_of g.layouts func).size

  inside : (k : ℕ) → k < size → judge_of g (xs ++ x ∷ []) b k ≡ Some (length xs, x)
  inside k lt =
      ap (option_and_then (numbered (xs ++ x ∷ []))) (last_new (covers g b k) x covered 0 xs)
      ∙ (ap (numbered (xs ++ x ∷ [])) start ∙ ap (option_map (numbering (length xs))) (get_end xs x))
    where
      covered : covers g b k x ≡ true
      covered =
          and_from ((b == b) && nat_le 0 k) (nat_lt k (0 + size))
          (and_from (b == b) (nat_le 0 k) (eq-eqb b b refl) (le-leb 0 k (omega arith)))
          (lt-ltb k (0 + size) (omega (arith, lt)))

      start : 0 + length xs ≡ length xs
      start = omega arith

  outside : (k : ℕ) → size ≤ k → judge_of g (xs ++ x ∷ []) b k ≡ None
  outside k le =
      judge_more g xs x b k (and_right _ _ (le-ltb k (0 + size) (omega (arith, le))))
      ∙ unjudged g xs b none k

-- both began in blocks in which nothing had begun
module _ (g h : FramedGiven) (xs ys : List Instance) (func other b k most : ℕ) (p v : MemoryBlock)
    (layouts : h.layouts ≡ g.layouts) (same : other ≡ func) (align : v.align ≡ p.align)
    (none : (i : ℕ) (x : Instance) → slice_get xs i ≡ Some x → x.block ≢ b)
    (never : (i : ℕ) (y : Instance) → slice_get ys i ≡ Some y → y.block ≢ k) where
  abbrev first : Instance
  first = new_instance func b 0

  abbrev second : Instance
  second = new_instance other k 0

  sizes : (layout_of h.layouts other).size ≡ (layout_of g.layouts func).size
  sizes = λ i. (layout_of (layouts i) (same i)).size

  judged : (j : ℕ) → AreJudges 0 p v (judge_of g (xs ++ first ∷ []) b j) (judge_of h (ys ++ second ∷ []) k (0 + j))
  judged j = ⊎_elim
      (λ lt.
      subst (λ (q : Option (ℕ × Instance) × Option (ℕ × Instance)). AreJudges 0 p v q.0 q.1)
      (λ i. (
        sym (inside g xs func b none j lt) i,
        sym (ap (judge_of h (ys ++ second ∷ []) k) from ∙ inside h ys other k never j (more lt)) i,
      ))
      (same, refl))
      (λ ge.
      subst (λ (q : Option (ℕ × Instance) × Option (ℕ × Instance)). AreJudges 0 p v q.0 q.1)
      (λ i. (
        sym (outside g xs func b none j ge) i,
        sym (ap (judge_of h (ys ++ second ∷ []) k) from ∙ outside h ys other k never j (less ge)) i,
      ))
      (refl, align))
      (cases_lt j (layout_of g.layouts func).size)
    where
      from : 0 + j ≡ j
      from = omega arith

      more : j < (layout_of g.layouts func).size → j < (layout_of h.layouts other).size
      more lt = let s = sizes in omega (arith, lt, s)

      less : (layout_of g.layouts func).size ≤ j → (layout_of h.layouts other).size ≤ j
      less ge = let s = sizes in omega (arith, ge, s)

  pub both_allowed : p.size ≤ most → HasRights (frame_rights g (xs ++ first ∷ [])) (frame_rights h (ys ++ second ∷ []))
      (record { block = k; offset = 0; is_seen = true }) b p v
  both_allowed le =
      allowed g h (xs ++ first ∷ []) (ys ++ second ∷ []) b k 0 most p v layouts
      (record { each = λ j lt. judged j }) le

-- the first did, and the second begins where the frame covers the block
module _ (g h : FramedGiven) (xs ys : List Instance) (func other b k : ℕ) (p v : MemoryBlock)
    (layouts : h.layouts ≡ g.layouts) (same : other ≡ func)
    (none : (i : ℕ) (x : Instance) → slice_get xs i ≡ Some x → x.block ≢ b) where
  abbrev one : Instance
  one = new_instance func b 0

  abbrev two : Instance
  two = new_instance other k 0

  covered : (j : ℕ) → j < (layout_of h.layouts other).size → covers h k j two ≡ true
  covered j lt =
      and_from ((k == k) && nat_le 0 j) (nat_lt j (0 + (layout_of h.layouts other).size))
      (and_from (k == k) (nat_le 0 j) (eq-eqb k k refl) (le-leb 0 j (omega arith)))
      (lt-ltb j (0 + (layout_of h.layouts other).size) (omega (arith, lt)))

  judged_last : (j : ℕ) → j < (layout_of h.layouts other).size
      → judge_of h (ys ++ two ∷ []) k j ≡ Some (length ys, two)
  judged_last j lt =
      let start : 0 + length ys ≡ length ys = omega arith in
      ap (option_and_then (numbered (ys ++ two ∷ []))) (last_new (covers h k j) two (covered j lt) 0 ys)
      ∙ (ap (numbered (ys ++ two ∷ [])) start ∙ ap (option_map (numbering (length ys))) (get_end ys two))

  pub frame_allowed : p.size ≡ (layout_of g.layouts func).size
      → HasRights (frame_rights g (xs ++ one ∷ [])) (frame_rights h (ys ++ two ∷ []))
      (record { block = k; offset = 0; is_seen = true }) b p v
  frame_allowed size =
      allowed g h (xs ++ one ∷ []) (ys ++ two ∷ []) b k 0 (layout_of g.layouts func).size p v layouts (record {
        each = λ j lt.
            let from : 0 + j ≡ j = omega arith in
            let sizes : (layout_of h.layouts other).size ≡ (layout_of g.layouts func).size
            = λ i. (layout_of (layouts i) (same i)).size in
            subst (λ (q : Option (ℕ × Instance) × Option (ℕ × Instance)). AreJudges 0 p v q.0 q.1)
            (λ i. (
              sym (inside g xs func b none j lt) i,
              sym (ap (judge_of h (ys ++ two ∷ []) k) from ∙ judged_last j (omega (arith, lt, sizes))) i,
            ))
            (same, refl);
      }) (omega (arith, size))

-- ---- muted memories

pub shown_live : (hides : ℕ → Bool) (m : List MemoryBlock) (c : ℕ) (p : MemoryBlock)
    → slice_get (muted hides m) c ≡ Some p → is_live p.life ≡ true → (hides c ≡ false) × (slice_get m c ≡ Some p)
shown_live hides m c p at live = by (hides c) refl (slice_get m c) refl (sym (muted_at hides m c) ∙ at)
  where
    by : (b : Bool) → hides c ≡ b → (o : Option MemoryBlock) → slice_get m c ≡ o
        → option_map (ended_if (hides c)) o ≡ Some p → (hides c ≡ false) × (slice_get m c ≡ Some p)
    by b eb None eo f = absurd (cc)
    by false eb (Some q) eo f =
        (eb, eo ∙ (ap (λ (t : Bool). Some (ended_if t q)) (sym eb) ∙ f))
    by true eb (Some q) eo f =
        absurd (dead (ended_if true q) p (same_some (ended_if true q) p
        (ap (λ (t : Bool). Some (ended_if t q)) (sym eb) ∙ f)) refl live)
      where
        dead : (z p : MemoryBlock) → z ≡ p → is_live z.life ≡ false → is_live p.life ≡ true → ⊥
        dead z p same ends lives =
            both (is_live p.life) (ap (λ (u : MemoryBlock). is_live u.life) (sym same) ∙ ends) lives
          where
            both : (t : Bool) → t ≡ false → t ≡ true → ⊥
            both true e h = absurd (cc)
            both false e h = absurd (cc)

pub shown_there : (hides : ℕ → Bool) (m : List MemoryBlock) (c : ℕ) (p : MemoryBlock) → hides c ≡ false
    → slice_get m c ≡ Some p → slice_get (muted hides m) c ≡ Some p
shown_there hides m c p shown at =
    muted_at hides m c ∙ (λ i. option_map (ended_if (shown i)) (at i))

muted_reowns : (hides : ℕ → Bool) (m k : List MemoryBlock) → AreReowned m k → AreReowned (muted hides m) (muted hides k)
muted_reowns hides m k re = record {
  each = λ c.
      subst (λ (p : Option MemoryBlock × Option MemoryBlock). IsReowned p.0 p.1)
      (λ i. (sym (muted_at hides m c) i, sym (muted_at hides k c) i))
      (by (hides c) (slice_get m c) (slice_get k c) (re.each c));
}
  where
    by : (t : Bool) (o q : Option MemoryBlock) → IsReowned o q
        → IsReowned (option_map (ended_if t) o) (option_map (ended_if t) q)
    by t None None h = tt
    by t None (Some y) h = absurd h
    by t (Some x) None h = absurd h
    by true (Some x) (Some y) h = λ i. ended_if true (h i)
    by false (Some x) (Some y) h = h

-- ---- rights turn

either : (c : Bool) → (not c || true) ≡ true
either true = refl
either false = refl

pub frames_compare : (g : FramedGiven) (ys : List Instance) (c : ℕ) (o : Option MemoryBlock) (at : Offset)
    → may_compare_at (frame_rights g ys) c o at ≡ true
frames_compare g ys c None at = refl
frames_compare g ys c (Some x) at = either (is_live x.life)

module _ (e : Elision) (s t : State) (r : AreElided e s t) (b k size most : ℕ)
    (none : (i : ℕ) (x : Instance) → slice_get s.instances i ≡ Some x → x.block ≢ b)
    (apart : (c : ℕ) (p : MemoryBlock) → c ≢ b → slice_get s.world.memory c ≡ Some p → r.hides c ≡ false
    → is_live p.life ≡ true → (home_of r.homes c).block ≢ k) where
  abbrev m : List MemoryBlock
  m = s.world.memory

  abbrev n : List MemoryBlock
  n = t.world.memory

  abbrev more : List MemoryBlock
  more = with_block m b (owned_to size)

  abbrev others : List MemoryBlock
  others = with_block n k (owned_to most)

  abbrev ours : Instance
  ours = new_instance s.top.func b 0

  abbrev theirs : Instance
  theirs = new_instance t.top.func k 0

  abbrev before : Rights
  before = frame_rights (framed e) s.instances

  abbrev target : Rights
  target = frame_rights (elided e) t.instances

  abbrev after : Rights
  after = frame_rights (framed e) (s.instances ++ ours ∷ [])

  abbrev behind : Rights
  behind = frame_rights (elided e) (t.instances ++ theirs ∷ [])

  -- what is asked of the block in which it begins, where that is shown
  abbrev pub IsAllowed : Type 0
  IsAllowed =
      (p v : MemoryBlock) → slice_get (muted r.hides more) b ≡ Some p → is_live p.life ≡ true
      → slice_get others (home_block r.homes b) ≡ Some v → HasRights after behind (home_of r.homes b) b p v

  module _ (own : IsAllowed) where
    opens : (c i : ℕ) (q : MemoryBlock) → IsOpen after c q i → (p : MemoryBlock) → IsOpen before c p i
    opens c i q op p = ⊎_elim
        (λ same. ap not (all_open (framed e) s.instances c (λ j z at same'. none j z at (same' ∙ same)) i 1))
        (λ ne. ap not (sym (open_still (framed e) s.instances ours c (λ same. ne (sym same)) i 1)) ∙ op)
        (cases_eq c b)

    allows : (c : ℕ) (p v : MemoryBlock) → slice_get (muted r.hides more) c ≡ Some p → is_live p.life ≡ true
        → slice_get others (home_block r.homes c) ≡ Some v → HasRights after behind (home_of r.homes c) c p v
    allows c p v at live to = ⊎_elim
        (λ same.
        subst (λ (a : ℕ). HasRights after behind (home_of r.homes a) a p v) (sym same)
        (own p v (ap (slice_get (muted r.hides more)) (sym same) ∙ at) live
        (ap (λ (a : ℕ). slice_get others (home_block r.homes a)) (sym same) ∙ to)))
        (λ ne. elsewhere ne)
        (cases_eq c b)
      where
        elsewhere : c ≢ b → HasRights after behind (home_of r.homes c) c p v
        elsewhere ne =
            let shown = shown_live r.hides more c p at live in
            let was : slice_get m c ≡ Some p = sym (changed_elsewhere m b c (owned_to size) ne) ∙ shown.1 in
            let far = apart c p ne was shown.0 live in
            let st = r.world.memory.each c p (shown_there r.hides m c p shown.0 was) live in
            let is : st.block ≡ v
            = same_some st.block v (sym st.there
            ∙ (sym (changed_elsewhere n k (home_block r.homes c) (owned_to most) far) ∙ to)) in
            subst (λ (z : MemoryBlock). HasRights after behind (home_of r.homes c) c p z) is
            (allowed_still (framed e) (elided e) s.instances t.instances ours theirs (home_of r.homes c) c p st.block
            (λ same. ne (sym same)) (λ same. far (sym same)) st.allowed)

    turns : MayTurn before after behind r.homes (muted r.hides m) (muted r.hides more) others
    turns = record {
      opens = λ c i p q at to live lt op. inl (opens c i q op p);
      compares = λ c i p q at to live lt op. inl refl;
      allowed = allows;
    }

    nulls : AreNullsKept after behind r.homes (muted r.hides more) others
    nulls = record {
      each = λ c o seen may.
          frames_compare (elided e) (t.instances ++ theirs ∷ []) (home_of r.homes c).block
          (slice_get others (home_of r.homes c).block) (moved o (home_of r.homes c).offset);
    }

    pub world_turned : AreOver after behind r.homes r.hides (λ a. a)
        (counted t.world.allocs (record s.world { memory = more })) (record t.world { memory = others })
    world_turned =
        worlds_turn before target after behind r.homes (λ a. a)
        (record (counted t.world.allocs s.world) { memory = muted r.hides m }) t.world (muted r.hides more) others
        (muted_reowns r.hides m more (owned_reowns m b size)) (owned_reowns n k most) turns nulls r.world
