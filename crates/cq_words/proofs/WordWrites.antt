-- A word written in the middle of a list of bytes.
use Rattle.std.proofs.Common.{◌≡◌, ℕ, ◌+◌, ◌-◌, ◌≤◌, List, [], ◌++◌, length, take, drop, arith}
use Rattle.std.proofs.lemmas.List.{length-drop, drop-drop, drop_all, append-nil, take_rest}
use borrow.Rule.Slice.PartMut.{put_mid}

pub put_word : (at n : ℕ) (xs ys bs : List ℕ) → at + n ≤ length xs → ys ≡ bs ++ drop n (take (length xs - at) (drop at xs))
    → put_mid at (length xs - at) xs ys ≡ take at xs ++ (bs ++ drop (at + n) xs)
put_word at n xs ys bs h e =
    let rest : drop (length xs - at) (drop at xs) ≡ [] = drop_all (length xs - at) (drop at xs) (omega (arith, length-drop at xs)) in
    rw (e, rest, append-nil, take_rest xs at, drop-drop n at xs)
