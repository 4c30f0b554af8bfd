-- A coroutine begins: the rights of its frame are new, and the source still stands in the target.
use Rattle.std.proofs.Common.{◌≡◌, ◌≢◌, ℕ, zero, suc, ◌+◌, ◌<◌, ◌≤◌, inl, Bool, true, false, not, List, [], ◌∷◌, ◌++◌, length, Option, Some, None, refl, sym, ap, ◌∙◌, subst, ⊎_elim, arith, if◌then◌else◌, ◌&&◌, ◌||◌, ◌==◌}
use Rattle.std.specs.Prelude.{nat_lt, slice_get, option_and_then, option_map}
use Rattle.std.proofs.lemmas.Bool.{and_left, and_right, cases_eq, le-ltb, ltb-false, ne_eqb}
use Rattle.run_laws_worked.specs.run_memory.Memory.{is_below, is_live, owned_to, owner_rights, with_block}
use Rattle.run_laws_worked.specs.run_memory.declared.block.MemoryBlock.{MemoryBlock}
use Rattle.run_laws_worked.specs.run_source.State.{last_from, numbered, or_else}
use Rattle.run_laws_worked.specs.run_source.declared.state.Instance.{Instance}
use Rattle.run_laws_worked.specs.run_framed.Framed.{FramedGiven, covers, frame_rights, is_open, is_open_byte, judge_of, layout_of, meets_in}
use Rattle.run_laws_worked.proofs.run_laws.memory.Written.{changed_elsewhere, changed_here, same_some}
use Rattle.run_laws_worked.specs.run_laws.memory.Pointers.{Home, home_of}
use Rattle.run_laws_worked.specs.run_laws.memory.Standing.{Embeds, HasRights}
use Rattle.run_laws_worked.proofs.run_laws.access.Turned.{owned_reowns, rights_turn}
use Rattle.run_laws_worked.specs.run_laws.access.Changed.{home_block}
use Rattle.run_laws_worked.specs.run_laws.access.Rights.{MayTurn}
use Rattle.run_laws_worked.specs.run_laws.embedded.Marks.{LivesAlone}

-- ---- one instance more, which doesn't have the byte

module _ (test : Instance → Bool) (x : Instance) (fails : test x ≡ false) where
  last_more : (i : ℕ) (xs : List Instance) → last_from test i (xs ++ x ∷ []) ≡ last_from test i xs
  last_more i [] = λ j. if fails j then Some i else None
  last_more i (y ∷ xs) = λ j. or_else (last_more (suc i) xs j) (if test y then Some i else None)

last_below : (test : Instance → Bool) (i k : ℕ) (xs : List Instance) → last_from test i xs ≡ Some k → k < i + length xs
last_below test i k [] e = absurd (cc)
last_below test i k (y ∷ xs) e = on (last_from test (suc i) xs) refl (test y) e (λ a f. last_below test (suc i) a xs f)
  where
    on : (o : Option ℕ) → last_from test (suc i) xs ≡ o → (t : Bool) → or_else o (if t then Some i else None) ≡ Some k → ((a : ℕ) → last_from test (suc i) xs ≡ Some a → a < suc i + length xs) → k < i + suc (length xs)
    on None f false e later = absurd (cc)
    on None f true e later = let is : i ≡ k = same_some i k e in omega arith
    on (Some a) f t e later = let is : a ≡ k = same_some a k e in let lt = later a f in omega arith

pub get_more : (xs : List Instance) (x : Instance) (i : ℕ) → i < length xs → slice_get (xs ++ x ∷ []) i ≡ slice_get xs i
get_more [] x i lt = absurd (omega arith)
get_more (y ∷ xs) x zero lt = refl
get_more (y ∷ xs) x (suc i) lt = get_more xs x i (omega arith)

module _ (g : FramedGiven) (xs : List Instance) (x : Instance) where
  abbrev more : List Instance
  more = xs ++ x ∷ []

  pub judge_more : (b k : ℕ) → covers g b k x ≡ false → judge_of g more b k ≡ judge_of g xs b k
  judge_more b k fails = ap (option_and_then (numbered more)) (last_more (covers g b k) x fails 0 xs) ∙ on (last_from (covers g b k) 0 xs) refl
    where
      on : (o : Option ℕ) → last_from (covers g b k) 0 xs ≡ o → option_and_then (numbered more) o ≡ option_and_then (numbered xs) o
      on None e = refl
      on (Some i) e = let lt = last_below (covers g b k) 0 i xs e in ap (option_map (λ y. (i, y))) (get_more xs x i (omega arith))

  open_more : (b k len : ℕ) → ((a : ℕ) → k ≤ a → covers g b a x ≡ false) → is_open g more b k len ≡ is_open g xs b k len
  open_more b k zero fails = refl
  open_more b k (suc len) fails = λ i. is_open_byte g k (judge_more b k (fails k (omega arith)) i) && open_more b (k + 1) len (λ a le. fails a (omega arith)) i

  meets_owned : (y : MemoryBlock) (owner : Option ℕ) (o align : ℕ) (j : Option (ℕ × Instance)) → meets_in g (record y { owned = owner }) o align j ≡ meets_in g y o align j
  meets_owned y owner o align None = refl
  meets_owned y owner o align (Some p) = refl

  -- rights over other bytes are as they were
  rights_more : (h : Home) (b : ℕ) (y z u v : MemoryBlock) → ((o len : ℕ) → o + len ≤ u.size → is_below o u.owned ≡ false → (a : ℕ) → h.offset + o ≤ a → covers g h.block a x ≡ false) → u ≡ record y { owned = u.owned } → v ≡ record z { owned = v.owned } → ((o : ℕ) → is_below o u.owned ≡ false → is_below o y.owned ≡ false) → HasRights owner_rights (frame_rights g xs) h b y z → HasRights owner_rights (frame_rights g more) h b u v
  rights_more h b y z u v away is_u is_v opens old = record {
    opens = λ o len within e. ap not (open_more h.block (h.offset + o) len (away o len within e)) ∙ old.opens o len (subst (λ (s : ℕ). o + len ≤ s) size within) (opens o e);
    aligned = λ o len align pos within free ok e.
        ap (λ (q : MemoryBlock). meets_in g q (h.offset + o) align (judge_of g more h.block (h.offset + o))) is_v
        ∙ meets_owned z v.owned (h.offset + o) align (judge_of g more h.block (h.offset + o))
        ∙ ap (meets_in g z (h.offset + o) align) (judge_more h.block (h.offset + o) (away o len within free (h.offset + o) (omega arith)))
        ∙ old.aligned o len align pos (subst (λ (s : ℕ). o + len ≤ s) size within) (opens o free) ok (sym (ap (λ (q : MemoryBlock). owner_rights.is_aligned b q o align) is_u) ∙ e);
    comparable = λ o le e. refl;
  }
    where
      size : u.size ≡ y.size
      size = ap (λ (q : MemoryBlock). q.size) is_u

module _ (g : FramedGiven) (xs : List Instance) (x : Instance) (homes : List Home) (m n : List MemoryBlock) (b size : ℕ) (start : x.start ≡ 0) (long : (layout_of g.layouts x.coroutine).size ≡ size) (at_block : home_block homes b ≡ x.block) (at_start : (home_of homes b).offset ≡ 0) (alone : LivesAlone homes m b) (unowned : (y : MemoryBlock) → slice_get m b ≡ Some y → y.owned ≡ None) (em : Embeds owner_rights (frame_rights g xs) homes m n) where
  abbrev source : List MemoryBlock
  source = with_block m b (owned_to size)

  abbrev goal : List MemoryBlock
  goal = with_block n x.block (owned_to size)

  behind : (k : ℕ) → size ≤ k → covers g x.block k x ≡ false
  behind k le = and_right _ _ (ap (λ (p : ℕ × ℕ). nat_lt k (p.0 + p.1)) (λ i. (start i, long i)) ∙ le-ltb k (0 + size) (omega arith))

  elsewhere : (B k : ℕ) → x.block ≢ B → covers g B k x ≡ false
  elsewhere B k ne = and_left _ _ (and_left _ _ (ne_eqb x.block B ne))

  -- the owned block
  owned_allowed : (y z : MemoryBlock) → slice_get source b ≡ Some y → is_live y.life ≡ true → slice_get goal (home_block homes b) ≡ Some z → HasRights owner_rights (frame_rights g (xs ++ x ∷ [])) (home_of homes b) b y z
  owned_allowed y z at live at' = on (slice_get m b) refl
    where
      on : (o : Option MemoryBlock) → slice_get m b ≡ o → HasRights owner_rights (frame_rights g (xs ++ x ∷ [])) (home_of homes b) b y z
      on None e = absurd (none_there m b e at)
        where
          none_there : (m : List MemoryBlock) (b : ℕ) → slice_get m b ≡ None → slice_get (with_block m b (owned_to size)) b ≡ Some y → ⊥
          none_there [] b h e = cc
          none_there (u ∷ m) zero h e = cc
          none_there (u ∷ m) (suc b) h e = none_there m b h e
      on (Some u) e =
          let is_y : owned_to size u ≡ y = same_some (owned_to size u) y (sym (changed_here m b (owned_to size) u e) ∙ at) in
          let live_u : is_live u.life ≡ true = ap (λ (q : MemoryBlock). is_live q.life) is_y ∙ live in
          let s = em.each b u e live_u in
          let is_z : owned_to size s.block ≡ z = same_some (owned_to size s.block) z (sym (changed_here n x.block (owned_to size) s.block (ap (slice_get n) (sym at_block) ∙ s.there)) ∙ ap (slice_get goal) (sym at_block) ∙ at') in
          subst (λ (p : MemoryBlock × MemoryBlock). HasRights owner_rights (frame_rights g (xs ++ x ∷ [])) (home_of homes b) b p.0 p.1) (λ i. (is_y i, is_z i))
          (rights_more g xs x (home_of homes b) b u s.block (owned_to size u) (owned_to size s.block)
          (λ o len within free a le. let ge = ltb-false o size free in subst (λ (B : ℕ). covers g B a x ≡ false) (sym at_block) (behind a (omega arith)))
          refl refl (λ o free. ap (is_below o) (unowned u e)) s.allowed)

  -- any other
  others_allowed : (c : ℕ) (y z : MemoryBlock) → c ≢ b → slice_get source c ≡ Some y → is_live y.life ≡ true → slice_get goal (home_block homes c) ≡ Some z → HasRights owner_rights (frame_rights g (xs ++ x ∷ [])) (home_of homes c) c y z
  others_allowed c y z ne at live at' =
      let e : slice_get m c ≡ Some y = sym (changed_elsewhere m b c (owned_to size) ne) ∙ at in
      let apart : home_block homes c ≢ x.block = λ f. alone c y ne e live (f ∙ sym at_block) in
      let s = em.each c y e live in
      let is_z : s.block ≡ z = same_some s.block z (sym s.there ∙ sym (changed_elsewhere n x.block (home_block homes c) (owned_to size) apart) ∙ at') in
      subst (λ (q : MemoryBlock). HasRights owner_rights (frame_rights g (xs ++ x ∷ [])) (home_of homes c) c y q) is_z
      (rights_more g xs x (home_of homes c) c y s.block y s.block (λ o len within free a le. elsewhere (home_block homes c) a (λ f. apart (sym f))) refl refl (λ o free. free) s.allowed)

  -- a block of the source before and after
  opens_less : (c i : ℕ) (y z : MemoryBlock) → slice_get m c ≡ Some y → slice_get source c ≡ Some z → is_below i z.owned ≡ false → is_below i y.owned ≡ false
  opens_less c i y z at at' e = ⊎_elim
      (λ same. ap (is_below i) (unowned y (ap (slice_get m) (sym same) ∙ at)))
      (λ ne. let is : y ≡ z = same_some y z (sym at ∙ sym (changed_elsewhere m b c (owned_to size) ne) ∙ at') in ap (λ (q : MemoryBlock). is_below i q.owned) is ∙ e)
      (cases_eq c b)

  compares_less : (c i : ℕ) (y z : MemoryBlock) → slice_get m c ≡ Some y → slice_get source c ≡ Some z → ((i == 0) || not (is_below i z.owned)) ≡ true → ((i == 0) || not (is_below i y.owned)) ≡ true
  compares_less c i y z at at' e = ⊎_elim
      (λ same. ap (λ (t : Bool). (i == 0) || not t) (ap (is_below i) (unowned y (ap (slice_get m) (sym same) ∙ at))) ∙ or_true (i == 0))
      (λ ne. let is : y ≡ z = same_some y z (sym at ∙ sym (changed_elsewhere m b c (owned_to size) ne) ∙ at') in ap (λ (q : MemoryBlock). (i == 0) || not (is_below i q.owned)) is ∙ e)
      (cases_eq c b)
    where
      or_true : (t : Bool) → (t || true) ≡ true
      or_true true = refl
      or_true false = refl

  turns : MayTurn owner_rights owner_rights (frame_rights g (xs ++ x ∷ [])) homes m source goal
  turns = record {
    opens = λ c i y z at at' live lt e. inl (opens_less c i y z at at' e);
    compares = λ c i y z at at' live lt e. inl (compares_less c i y z at at' e);
    allowed = λ c y z at live at'. ⊎_elim
        (λ same. subst (λ (k : ℕ). HasRights owner_rights (frame_rights g (xs ++ x ∷ [])) (home_of homes k) k y z) (sym same) (owned_allowed y z (ap (slice_get source) (sym same) ∙ at) live (ap (λ (k : ℕ). slice_get goal (home_block homes k)) (sym same) ∙ at')))
        (λ ne. others_allowed c y z ne at live at')
        (cases_eq c b);
  }

  pub begun_stands : Embeds owner_rights (frame_rights g (xs ++ x ∷ [])) homes source goal
  begun_stands = rights_turn owner_rights (frame_rights g xs) owner_rights (frame_rights g (xs ++ x ∷ [])) homes m n source goal (owned_reowns m b size) (owned_reowns n x.block size) turns em
