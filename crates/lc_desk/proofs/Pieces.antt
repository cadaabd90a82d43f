-- Of a desk: what stands in a store that is made of pieces.
use Rattle.std.proofs.Common.{◌≡◌, ℕ, true, false, List, [], ◌∷◌, length, Option, Some, None, refl, ap, arith}
use Rattle.std.specs.Option.{ForSome}
use Rattle.std.specs.Prelude.{if◌then◌else◌}
use Rattle.lc_record.specs.Content.{put}
use Rattle.lc_rest.specs.declared.holder.Holder.{Holder}
use Rattle.lc_token.specs.declared.token.Token.{Token}
use Rattle.lc_desk.specs.Pieces.{bytes_of, is_here, left_at}
use Rattle.lc_desk.specs.declared.segment_piece.SegmentPiece.{SegmentPiece}

-- bytes that are put over as many are there alone
pub put_whole : (items old : List ℕ) → length items ≡ length old → put 0 items old ≡ items
put_whole [] [] same = refl
put_whole [] (o ∷ os) same = absurd (omega (arith, same))
put_whole (i ∷ is) [] same = absurd (omega (arith, same))
put_whole (i ∷ is) (o ∷ os) same = ap (λ (l : List ℕ). i ∷ l) (put_whole is os (omega (arith, same)))

-- the bytes that stand somewhere are a segment's
pub bytes_long : (n : ℕ) (piece : SegmentPiece) (standing : Option Token) → length piece.bytes.items ≡ n → length piece.stable_bytes.items ≡ n → length (bytes_of piece standing) ≡ n
bytes_long n piece None all stable = stable
bytes_long n piece (Some token) all stable = all

pub some_left : (P : Token → Type 0) (node : ℕ) (holder : Holder) (token : Option Token) → ForSome token P → ForSome (left_at node holder token) P
some_left P node holder token its = elim (is_here node holder) as (λ b. ForSome (if b then None else token) P) [ true ↦ (λ t none. absurd cc) | false ↦ its ]
