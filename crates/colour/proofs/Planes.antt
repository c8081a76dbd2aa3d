-- Three planes: operation 0 in order 0 leaves them, and an operation and then an order is the two at once.
use lib.IntN.{ℤ, pos}
use lib.ListN.{length, get_or, take, drop}
use mathlib.Core.List.{List, ◌++◌}
use mathlib.Core.Path.{◌≡◌, sym, ap, ◌∙◌}
use Prim.Native.Nat.{ℕ, ◌+◌, ◌<◌}
use Rattle.integer.proofs.Fill.{tabulate_length, tabulated, tabulate_self, tabulate_agree, part_cell, filled_part}
use Rattle.integer.specs.Fill.{tabulate, filled}
use Rattle.colour.specs.declared.restore.Triple.{Triple}
use Rattle.colour.specs.Restore.{operate, reorder, at, first, second, third, restored, Written}

pub untouched : (a b c : List ℤ) → length b ≡ length a → length c ≡ length a → Written 0 0 a b c a b c
untouched a b c nb nc =
    record {
      first_is = sym (tabulate_self a (pos 0));
      second_is = rw (← nb) (sym (tabulate_self b (pos 0)));
      third_is = rw (← nc) (sym (tabulate_self c (pos 0)));
    }

module _ {operation order : ℕ} {a b c a' b' c' a'' b'' c'' : List ℤ} (w : Written operation 0 a b c a' b' c') (v : Written 0 order a' b' c' a'' b'' c'') where
  long : length a' ≡ length a
  long = ap length w.first_is ∙ tabulate_length _ (length a)

  -- in between stands the operation's image
  between : (i : ℕ) → i < length a → at a' b' c' i ≡ operate operation (at a b c i)
  between i h =
      let x : get_or a' i (pos 0) ≡ first (operate operation (at a b c i)) = ap (λ (l : List ℤ). get_or l i (pos 0)) w.first_is ∙ tabulated _ (length a) i (pos 0) h in
      let y : get_or b' i (pos 0) ≡ second (operate operation (at a b c i)) = ap (λ (l : List ℤ). get_or l i (pos 0)) w.second_is ∙ tabulated _ (length a) i (pos 0) h in
      let z : get_or c' i (pos 0) ≡ third (operate operation (at a b c i)) = ap (λ (l : List ℤ). get_or l i (pos 0)) w.third_is ∙ tabulated _ (length a) i (pos 0) h in
      rw (x, y, z)

  agree : (pick : Triple → ℤ) (i : ℕ) → i < length a → restored pick 0 order a' b' c' i ≡ restored pick operation order a b c i
  agree pick i h = ap (λ (t : Triple). pick (reorder order t)) (between i h)

  pub composed : Written operation order a b c a'' b'' c''
  composed =
      record {
        first_is = v.first_is ∙ rw long (tabulate_agree _ _ (length a) (agree first));
        second_is = v.second_is ∙ rw long (tabulate_agree _ _ (length a) (agree second));
        third_is = v.third_is ∙ rw long (tabulate_agree _ _ (length a) (agree third));
      }

-- The planes restored up to s: from there on the next k words of each are as they were, so what becomes of them is the rule's.
module _ (operation order s k : ℕ) (a b c : List ℤ) where
  abbrev pub part : (Triple → ℤ) → List ℤ → List ℤ
  part pick plane = take k (drop s (filled (restored pick operation order a b c) s plane))

  part_agree : (pick : Triple → ℤ) (i : ℕ) → i < k → restored pick operation order (part first a) (part second b) (part third c) i ≡ restored pick operation order a b c (s + i)
  part_agree pick i h =
      rw (
        part_cell (restored first operation order a b c) s k a i (pos 0) h,
        part_cell (restored second operation order a b c) s k b i (pos 0) h,
        part_cell (restored third operation order a b c) s k c i (pos 0) h,
      )

  -- the whole plane with a part restored
  pub next : (pick : Triple → ℤ) (plane new : List ℤ) (n end : ℕ) → n ≡ k → s + k ≡ end
      → new ≡ tabulate (restored pick operation order (part first a) (part second b) (part third c)) n
      → take s (filled (restored pick operation order a b c) s plane) ++ (new ++ drop k (drop s (filled (restored pick operation order a b c) s plane)))
      ≡ filled (restored pick operation order a b c) end plane
  next pick plane new n end e at_end is =
      filled_part (restored pick operation order a b c) s k plane new
      (is ∙ ap (tabulate (restored pick operation order (part first a) (part second b) (part third c))) e ∙ tabulate_agree _ _ k (part_agree pick))
      ∙ ap (λ (m : ℕ). filled (restored pick operation order a b c) m plane) at_end
