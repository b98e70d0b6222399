use Rattle.std.proofs.Common.{◌≡◌, ◌<◌, ◌≤◌, length, get_or, ap, subst, arith}
use Rattle.varisat_search.proofs.simplifying.MendedLists.{mending-read, mending-at-dropped, mending-at-kept, mending-at-end}
use Rattle.varisat_search.proofs.mend.mend_list.Goals as goal

pub mended_watch-requires-clause-place : goal.mended_watch-requires-clause-place
mended_watch-requires-clause-place g c =
    let inside : c.watches.read < length c.watches.list = omega (arith, c.watches-test.true, ap length c.as_slice.ensures) in
    let w = c.index-as_slice-read.result in
    let read : w ≡ get_or c.watches.list c.watches.read w =
    subst (λ ws. w ≡ get_or ws c.watches.read w) c.as_slice-in-watches.ensures c.index-as_slice-read.is in
    c.requires.places w (mending-read c.watches.invariant inside read)

pub watches-preserved-in_default : goal.watches-preserved-in_default
watches-preserved-in_default g c =
    let inside : c.watches.read < length c.watches.list = omega (arith, c.watches-test.true, ap length c.as_slice.ensures) in
    let w = c.index-as_slice-read.result in
    let read : w ≡ get_or c.watches.list c.watches.read w =
    subst (λ ws. w ≡ get_or ws c.watches.read w) c.as_slice-in-watches.ensures c.index-as_slice-read.is in
    mending-at-dropped c.watches.invariant inside read c.in_default.ensures

pub watches-preserved : goal.watches-preserved
watches-preserved g c =
    let inside : c.watches.read < length c.watches.list = omega (arith, c.watches-test.true, ap length c.as_slice.ensures) in
    let w = c.index-as_slice-read.result in
    let read : w ≡ get_or c.watches.list c.watches.read w =
    subst (λ ws. w ≡ get_or ws c.watches.read w) c.as_slice-in-watches.ensures c.index-as_slice-read.is in
    rw (c.set.ensures) (mending-at-kept c.watches.invariant inside read c.in-Some.mended c.in-Some.ensures)

pub returns : goal.returns
returns g c =
    let done : length c.watches.list ≤ c.watches.read = omega (arith, c.watches-test.false, ap length c.as_slice.ensures) in
    mending-at-end c.watches.invariant c.truncate.new.self done c.truncate.ensures
