-- Changes that the source and the target make alike.
use Rattle.std.proofs.Common.{◌≡◌, ◌≢◌, ℕ, zero, suc, ◌+◌, ◌^◌, ◌<◌, ◌≤◌, true, false, List, [], ◌∷◌, ◌++◌, length, replicate, Some, None, refl, sym, ap, ◌∙◌, subst, ⊎_elim, arith, length-append}
use Rattle.std.specs.Prelude.{slice_get}
use Rattle.std.proofs.lemmas.Bool.{cases_eq, cases_lt, false≢true}
use Rattle.std.proofs.lemmas.List.{get_or_append_left, get_or_at, get_or_past, length-replicate}
use Rattle.std.proofs.lemmas.Option.{slice_get_past}
use Rattle.run_memory.specs.Memory.{Rights, fresh, is_live, killed_block, with_block}
use Rattle.run_memory.specs.declared.block.Byte.{Byte}
use Rattle.run_memory.specs.declared.block.Kind.{Kind}
use Rattle.run_memory.specs.declared.block.MemoryBlock.{MemoryBlock}
use Rattle.run_laws.proofs.memory.Changes.{HasRoom, blank_stands, reseated, source_dies, target_changes, target_grows}
use Rattle.run_laws.proofs.memory.Homes.{append_extends}
use Rattle.run_laws.proofs.memory.Written.{changed_elsewhere, same_some}
use Rattle.run_laws.specs.memory.Pointers.{Home, home_of, nowhere}
use Rattle.run_laws.specs.memory.Standing.{AreByteRights, Embeds, HasFreshRights, Stands, blank_block}

-- ---- one block more

last_get : (m : List MemoryBlock) (x : MemoryBlock) → slice_get (m ++ x ∷ []) (length m) ≡ Some x
last_get [] x = refl
last_get (y ∷ m) x = last_get m x

other_get : (m : List MemoryBlock) (x : MemoryBlock) (c : ℕ) → c ≢ length m → slice_get (m ++ x ∷ []) c ≡ slice_get m c
other_get [] x zero ne = absurd (ne refl)
other_get [] x (suc c) ne = refl
other_get (y ∷ m) x zero ne = refl
other_get (y ∷ m) x (suc c) ne = other_get m x c (λ e. ne (ap suc e))

other_home : (homes : List Home) (q : Home) (c : ℕ) → c ≢ length homes → home_of (homes ++ q ∷ []) c ≡ home_of homes c
other_home homes q c ne = ⊎_elim
    (λ lt. get_or_append_left homes (q ∷ []) nowhere c lt)
    (λ ge. let l = length-append homes (q ∷ []) in get_or_past (homes ++ q ∷ []) c nowhere (omega (arith, differ c (length homes) ne ge)) ∙ sym (get_or_past homes c nowhere ge))
    (cases_lt c (length homes))
  where
    differ : (a b : ℕ) → a ≢ b → b ≤ a → b + 1 ≤ a
    differ a b ne le = ⊎_elim (λ lt. omega arith) (λ ge. absurd (ne (omega arith))) (cases_lt b a)

module _ (rights target : Rights) where
  pub fresh_kept : (homes : List Home) (m n : List MemoryBlock) → HasFreshRights rights target (length m) (length n) → (size align : ℕ) (kind : Kind) → length homes ≡ length m → size < 2 ^ 64 → Embeds rights target homes m n → Embeds rights target (homes ++ record { block = length n; offset = 0; is_seen = true } ∷ []) (fresh m size align kind) (fresh n size align kind)
  fresh_kept homes m n fresh_rights size align kind len small em =
      reseated rights target homes more m (fresh m size align kind) (fresh n size align kind) (length m) (append_extends homes (q ∷ [])) (omega (arith, length-append homes (q ∷ [])))
      (λ c ne. other_home homes q c (λ e. ne (e ∙ len)))
      (target_grows rights target homes m n (x ∷ []) em)
      (λ c ne. other_get m x c ne)
      (λ y is live. subst (λ (z : MemoryBlock). Stands rights target more (fresh n size align kind) (length m) z) (same_some x y (sym (last_get m x) ∙ is)) stands)
      (λ c y z ne at live is live' shared.
      let st = em.each c y at live in
      let there : slice_get n (length n) ≡ Some st.block = ap (slice_get n) (sym (shared ∙ ap (λ (h : Home). h.block) own)) ∙ st.there in
      let gone : slice_get n (length n) ≡ None = slice_get_past n (length n) (omega arith) in
      absurd (cc))
    where
      q : Home
      q = record { block = length n; offset = 0; is_seen = true }

      more : List Home
      more = homes ++ q ∷ []

      x : MemoryBlock
      x = blank_block size align kind

      own : home_of more (length m) ≡ q
      own = get_or_at homes q [] nowhere (length m) len

      full : length (replicate size Byte.Undefined) ≡ size
      full = length-replicate size Byte.Undefined

      room : HasRoom rights target (fresh n size align kind) q (length m) x
      room = record {
        block = x;
        there = last_get n x;
        live = refl;
        whole = full;
        fits = omega arith;
        small = small;
        writable = λ e. e;
        allowed = fresh_rights.each size align kind;
      }

      stands : Stands rights target more (fresh n size align kind) (length m) x
      stands =
          blank_stands rights target more (fresh n size align kind) (length m) x (omega (arith, length-append homes (q ∷ []))) refl
          (subst (λ (h : Home). HasRoom rights target (fresh n size align kind) h (length m) x) (sym own) room)

-- ---- a block changed in the source, and its home in the target

killed_dead : (y : MemoryBlock) → is_live (killed_block y).life ≡ false
killed_dead y = refl

gone_here : (m : List MemoryBlock) (b : ℕ) (x : MemoryBlock) → slice_get (with_block m b killed_block) b ≡ Some x → is_live x.life ≡ true → ⊥
gone_here [] b x e live = absurd (cc)
gone_here (y ∷ m) zero x e live = let same : killed_block y ≡ x = cc in false≢true (ap (λ (z : MemoryBlock). is_live z.life) same ∙ live)
gone_here (y ∷ m) (suc b) x e live = gone_here m b x e live

module _ (rights target : Rights) (law : AreByteRights rights) (law' : AreByteRights target) where
  -- the block b stands alone in its home, and stands there after both have changed
  pub mirrored : (homes : List Home) (m n : List MemoryBlock) (b : ℕ) (f g : MemoryBlock → MemoryBlock) → Embeds rights target homes m n → ((c : ℕ) (z : MemoryBlock) → c ≢ b → slice_get m c ≡ Some z → is_live z.life ≡ true → (home_of homes c).block ≢ (home_of homes b).block) → ((x : MemoryBlock) → slice_get (with_block m b f) b ≡ Some x → is_live x.life ≡ true → Stands rights target homes (with_block n (home_of homes b).block g) b x) → Embeds rights target homes (with_block m b f) (with_block n (home_of homes b).block g)
  mirrored homes m n b f g em alone here =
      reseated rights target homes homes without (with_block m b f) after b (record { each = λ c h. refl }) (omega arith) (λ c ne. refl) em' (λ c ne. changed_elsewhere m b c f ne ∙ sym (changed_elsewhere m b c killed_block ne)) here
      (λ c x y ne at live is live' shared. absurd (alone c x ne (sym (changed_elsewhere m b c killed_block ne) ∙ at) live shared))
    where
      without : List MemoryBlock
      without = with_block m b killed_block

      after : List MemoryBlock
      after = with_block n (home_of homes b).block g

      not_there : (c : ℕ) (z : MemoryBlock) → slice_get without c ≡ Some z → is_live z.life ≡ true → (home_of homes c).block ≢ (home_of homes b).block
      not_there c z at live = ⊎_elim
          (λ e. absurd (gone_here m b z (ap (slice_get without) (sym e) ∙ at) live))
          (λ ne. alone c z ne (sym (changed_elsewhere m b c killed_block ne) ∙ at) live)
          (cases_eq c b)

      em' : Embeds rights target homes without after
      em' = target_changes rights target law law' homes without n (home_of homes b).block g (source_dies rights target homes m n b killed_block killed_dead em) not_there
