-- How type expressions are put together from what comes next.
use Rattle.std.proofs.Common.{◌≡◌, ℕ, None, Some, List, subst, ◌∙◌}
use Rattle.luo_scan.specs.declared.token.Word.{Word}
use Rattle.luo_scan.specs.declared.token.Word.TheVariants.{KwCard, KwIn, KwSequence, KwSet, KwCycle, KwMultiset, KwPowerset}
use Rattle.luo_scan.specs.declared.token.Mark.TheVariants.{Comma, Equals, LeftRound, RightRound, LessEqual, GreaterEqual, Dots}
use Rattle.luo_scan.specs.declared.token.TokenKind.{TokenKind}
use Rattle.luo_scan.specs.declared.token.TokenKind.TheVariants as kind
use Rattle.luo_scan.specs.Lexemes.{Lexeme}
use Rattle.luo_model.specs.declared.program.Kind.{Kind}
use Rattle.luo_model.specs.declared.program.Kind.TheVariants.{Sequence, Set, Cycle, Multiset, Powerset}
use Rattle.luo_source.specs.declared.types.Range.{Range}
use Rattle.luo_source.specs.declared.types.Range.TheVariants.{Exactly, AtMost, AtLeast, Between}
use Rattle.luo_source.specs.declared.types.Bound.{Bound}
use Rattle.luo_source.specs.Ends.{No}
use Rattle.luo_syntax.specs.inner.Next.{IsNext, next, IsNextAt, next_at, Misses, MissesNumber}
use Rattle.luo_source.specs.GrammarTypes.{IsRange, exactly, at_most, at_least, between, IsCollection, sequence, set, cycle, multiset, powerset, EndsCollection, unbounded, bounded}
use Rattle.luo_syntax.specs.inner.TypeParts.{IsCollectionNext, collection_next, MissesCollection, IsBetween, limits, IsBound, a_bound, IsWeight, weight}
use Rattle.luo_syntax.specs.inner.StopsTypes.{BetweenStops, low_number, between_dots, high_number, RangeStops, no_range, exactly_number, at_most_number, at_least_number, in_between, BoundStops, bound_card, bound_range, bound_right, EndStops, no_end, in_bound, AtomStops, atom_left, atom_number, atom_right}
use Rattle.luo_syntax.proofs.Nexts.{next_past, misses_past, is_next}

pub next_at_past : {what that : TokenKind} {k : ℕ} {from at to : List Lexeme} → Misses what from at → IsNextAt that k at to → IsNextAt that k from to
next_at_past {that} {k} {to} m p = subst (λ z. IsNextAt that k z to) m.0 p

-- what is missed here, also where more is missed behind
pub missed : {what : TokenKind} {from mid at : List Lexeme} → Misses what from mid → at ≡ mid → Misses what from at
missed m e = (e ∙ m.0, m.1)

pub reads_between : {from mid next_ to : List Lexeme} {low high : ℕ} → IsNext (kind.Number low) from mid → IsNext (kind.Mark Dots) mid next_ → IsNext (kind.Number high) next_ to → IsBetween from to (Between low high)
reads_between next next next = limits

pub reads_exactly : {from mid to : List Lexeme} {n : ℕ} → IsNext (kind.Mark Equals) from mid → IsNext (kind.Number n) mid to → IsRange from to (Exactly n)
reads_exactly next next = exactly

reads_most : {from mid to : List Lexeme} {n : ℕ} → IsNext (kind.Mark LessEqual) from mid → IsNext (kind.Number n) mid to → IsRange from to (AtMost n)
reads_most next next = at_most

reads_least : {from mid to : List Lexeme} {n : ℕ} → IsNext (kind.Mark GreaterEqual) from mid → IsNext (kind.Number n) mid to → IsRange from to (AtLeast n)
reads_least next next = at_least

reads_in : {from mid to : List Lexeme} {r : Range} → IsNext (kind.Word KwIn) from mid → IsBetween mid to r → IsRange from to r
reads_in next limits = between

pub reads_at_most : {from a mid to : List Lexeme} {n : ℕ} → Misses (kind.Mark Equals) from a → IsNext (kind.Mark LessEqual) a mid → IsNext (kind.Number n) mid to → IsRange from to (AtMost n)
reads_at_most m p q = reads_most (next_past m p) q

pub reads_at_least : {from a b mid to : List Lexeme} {n : ℕ} → Misses (kind.Mark Equals) from a → Misses (kind.Mark LessEqual) a b → IsNext (kind.Mark GreaterEqual) b mid → IsNext (kind.Number n) mid to → IsRange from to (AtLeast n)
reads_at_least m n p q = reads_least (next_past m (next_past n p)) q

pub reads_in_between : {from a b c mid to : List Lexeme} {r : Range} → Misses (kind.Mark Equals) from a → Misses (kind.Mark LessEqual) a b → Misses (kind.Mark GreaterEqual) b c → IsNext (kind.Word KwIn) c mid → IsBetween mid to r → IsRange from to r
reads_in_between m n o p q = reads_in (next_past m (next_past n (next_past o p))) q

pub stops_at_most : {from a mid at : List Lexeme} → Misses (kind.Mark Equals) from a → IsNext (kind.Mark LessEqual) a mid → MissesNumber mid at → RangeStops from at
stops_at_most m p s = at_most_number (next_past m p) s

pub stops_at_least : {from a b mid at : List Lexeme} → Misses (kind.Mark Equals) from a → Misses (kind.Mark LessEqual) a b → IsNext (kind.Mark GreaterEqual) b mid → MissesNumber mid at → RangeStops from at
stops_at_least m n p s = at_least_number (next_past m (next_past n p)) s

pub stops_in : {from a b c mid at : List Lexeme} → Misses (kind.Mark Equals) from a → Misses (kind.Mark LessEqual) a b → Misses (kind.Mark GreaterEqual) b c → IsNext (kind.Word KwIn) c mid → BetweenStops mid at → RangeStops from at
stops_in m n o p s = in_between (next_past m (next_past n (next_past o p))) s

pub stops_range : {from a b c at : List Lexeme} → Misses (kind.Mark Equals) from a → Misses (kind.Mark LessEqual) a b → Misses (kind.Mark GreaterEqual) b c → Misses (kind.Word KwIn) c at → RangeStops from at
stops_range m n o p =
    let third = misses_past m (misses_past n o) in
    no_range (missed (missed (missed m n.0) o.0) p.0) (missed (missed (misses_past m n) o.0) p.0) (missed third p.0) (misses_past third p)

pub reads_bound : {from mid next_ to : List Lexeme} {at : ℕ} {range : Range} → IsNextAt (kind.Word KwCard) at from mid → IsRange mid next_ range → IsNext (kind.Mark RightRound) next_ to → IsBound from to (record { range = range; at = at })
reads_bound next_at p next = a_bound p

pub reads_bounded : {from mid to : List Lexeme} {b : Bound} → IsNext (kind.Mark Comma) from mid → IsBound mid to b → EndsCollection from to (Some b)
reads_bounded next (a_bound p) = bounded p

reads_right : {from to : List Lexeme} → IsNext (kind.Mark RightRound) from to → EndsCollection from to None
reads_right next = unbounded

pub reads_unbounded : {from mid to : List Lexeme} → Misses (kind.Mark Comma) from mid → IsNext (kind.Mark RightRound) mid to → EndsCollection from to None
reads_unbounded m p = reads_right (next_past m p)

pub stops_end : {from mid at : List Lexeme} → Misses (kind.Mark Comma) from mid → Misses (kind.Mark RightRound) mid at → EndStops from at
stops_end m n = no_end (missed m n.0) (misses_past m n)

pub reads_weight : {from mid next_ to : List Lexeme} {w : ℕ × ℕ} → IsNext (kind.Mark LeftRound) from mid → IsNextAt (kind.Number w.0) w.1 mid next_ → IsNext (kind.Mark RightRound) next_ to → IsWeight from to w
reads_weight next next_at next = weight

pub stops_weight : {from mid next_ at : List Lexeme} {n k : ℕ} → IsNext (kind.Mark LeftRound) from mid → IsNextAt (kind.Number n) k mid next_ → Misses (kind.Mark RightRound) next_ at → AtomStops from at
stops_weight p q m = atom_right p (is_next q) m

pub stops_card : {from mid at : List Lexeme} {k : ℕ} → IsNextAt (kind.Word KwCard) k from mid → RangeStops mid at → BoundStops from at
stops_card p s = bound_range (is_next p) s

pub stops_right : {from mid next_ at : List Lexeme} {k : ℕ} {range : Range} → IsNextAt (kind.Word KwCard) k from mid → IsRange mid next_ range → Misses (kind.Mark RightRound) next_ at → BoundStops from at
stops_right p q m = bound_right (is_next p) q m

pub takes_sequence : {from to : List Lexeme} {k : ℕ} → IsNextAt (kind.Word KwSequence) k from to → IsCollectionNext Sequence k from to
takes_sequence p = collection_next sequence p

pub takes_set : {from a to : List Lexeme} {k : ℕ} → Misses (kind.Word KwSequence) from a → IsNextAt (kind.Word KwSet) k a to → IsCollectionNext Set k from to
takes_set m p = collection_next set (next_at_past m p)

pub takes_cycle : {from a b to : List Lexeme} {k : ℕ} → Misses (kind.Word KwSequence) from a → Misses (kind.Word KwSet) a b → IsNextAt (kind.Word KwCycle) k b to → IsCollectionNext Cycle k from to
takes_cycle m n p = collection_next cycle (next_at_past m (next_at_past n p))

pub takes_multiset : {from a b c to : List Lexeme} {k : ℕ} → Misses (kind.Word KwSequence) from a → Misses (kind.Word KwSet) a b → Misses (kind.Word KwCycle) b c → IsNextAt (kind.Word KwMultiset) k c to → IsCollectionNext Multiset k from to
takes_multiset m n o p = collection_next multiset (next_at_past m (next_at_past n (next_at_past o p)))

pub takes_powerset : {from a b c d to : List Lexeme} {k : ℕ} → Misses (kind.Word KwSequence) from a → Misses (kind.Word KwSet) a b → Misses (kind.Word KwCycle) b c → Misses (kind.Word KwMultiset) c d → IsNextAt (kind.Word KwPowerset) k d to → IsCollectionNext Powerset k from to
takes_powerset m n o p q = collection_next powerset (next_at_past m (next_at_past n (next_at_past o (next_at_past p q))))

none_comes : {word : Word} {of : Kind} {ls : List Lexeme} → No (kind.Word KwSequence) ls → No (kind.Word KwSet) ls → No (kind.Word KwCycle) ls → No (kind.Word KwMultiset) ls → No (kind.Word KwPowerset) ls → IsCollection word of → No (kind.Word word) ls
none_comes a b c d e sequence = a
none_comes a b c d e set = b
none_comes a b c d e cycle = c
none_comes a b c d e multiset = d
none_comes a b c d e powerset = e

pub misses_collection : {from a b c d at : List Lexeme} → Misses (kind.Word KwSequence) from a → Misses (kind.Word KwSet) a b → Misses (kind.Word KwCycle) b c → Misses (kind.Word KwMultiset) c d → Misses (kind.Word KwPowerset) d at → MissesCollection from at
misses_collection m n o p q =
    let second = misses_past m n in
    let third = misses_past second o in
    let fourth = misses_past third p in
    let fifth = misses_past fourth q in
    (fifth.0, λ word of w. none_comes m.1 second.1 third.1 fourth.1 fifth.1 w)

pub ruleset bound_steps = (reads_between, low_number, between_dots, high_number, reads_exactly, reads_at_most, reads_at_least, reads_in_between, exactly_number, stops_at_most, stops_at_least, stops_in, stops_range, reads_bound, bound_card, stops_card, stops_right, reads_bounded, reads_unbounded, in_bound, stops_end, reads_weight, atom_left, atom_number, stops_weight, takes_sequence, takes_set, takes_cycle, takes_multiset, takes_powerset, misses_collection)
