-- What is found of two rows says whether their terms are equal by the equations.
use Rattle.std.proofs.Common.{◌≡◌, ℕ, ◌≤◌, Bool, true, false, List, length, Some, None, Option as Maybe, Ok, Err, Result, sym, ap, ◌∙◌}
use Rattle.std.proofs.Common.{subst, arith}
use Rattle.rewriting.specs.Terms.{Term, size, SmallLetter, Fits}
use Rattle.rewriting.specs.Rules.{Steps, Done, Meet}
use Rattle.rewriting.specs.Order.{rank, AllDown}
use Rattle.rewriting.specs.Books.{Book as Told, Fine}
use Rattle.rewriting.specs.Theorems.{IsSettled}
use Rattle.rewriting.proofs.Stepping.{trans}
use Rattle.rewriting.proofs.Terminating.{steps_keep}
use Rattle.rewriting.proofs.Signature.{over_fits}
use Rattle.books.specs.declared.row.Book.{Book}
use Rattle.books.specs.Books.{told, sound_book_in}
use Rattle.books.specs.Rows.{Of}
use Rattle.books.proofs.Glueing.{row_length}
use Rattle.engine.specs.declared.types.NoRoom.{NoRoom}
use Rattle.engine.specs.declared.work.Work.{Work}
use Rattle.engine.specs.Meeting.{Ample, Compares}
use Rattle.engine.specs.Pairs.{RowsCompared}
use Rattle.equal.specs.declared.types.Told.{Told as Answer}
use Rattle.equal.specs.declared.types.Told.TheVariants.{Same, Different, NoTerm, Full}
use Rattle.equal.specs.Judging.{answer_of, RowsSay}

-- two terms that meet have one normal form
pub one_normal : (b : Told) → Fine b → AllDown (rank b.ranks) b.rules → IsSettled b → (t u v w : Term) →
    Fits b.parts t → Fits b.parts u → Steps b.rules t v → Done b.rules v → Steps b.rules u w → Done b.rules w →
    Meet b.rules t u → v ≡ w
one_normal b fine down settled t u v w ft fu hv dv hw dw (m, tm, um) =
    let n = settled.comes m (steps_keep b fine down tm ft) in
    settled.one t v n.0 ft hv dv (trans tm n.1) n.2 ∙ sym (settled.one u w n.0 fu hw dw (trans um n.1) n.2)

module _ (b : Book) (wk : Work) (down : AllDown (rank (told b).ranks) (told b).rules) (settled : IsSettled (told b))
    (n : ℕ) (ample : Ample n wk) (x y : List ℕ) (short-x : length x ≤ n) (short-y : length y ≤ n) where
  fits : (z : List ℕ) (t : Term) → Of (told b).parts z t → Fits (told b).parts t
  fits z t o = over_fits (told b).parts SmallLetter t o.fits

  small : (z : List ℕ) → length z ≤ n → (t : Term) → Of (told b).parts z t → size t ≤ n
  small z short t o = omega (arith, ap length o.written, row_length t)

  found : (c : Result Bool NoRoom) (h : RowsCompared b wk x y (Some c)) → Compares b n h.0.0 h.0.1 c
  found c h =
      let k = h.0 in
      h.1 k.0 k.1 k.2 n ample (small x short-x k.0 k.2.left) (small y short-y k.1 k.2.right)

  says_same : RowsCompared b wk x y (Some (Ok true)) → RowsSay b n x y Same
  says_same h =
      let t = h.0.0 in
      let u = h.0.1 in
      let k = h.0.2 in
      (t, u, k.left, k.right, (settled.equal t u (fits x t k.left) (fits y u k.right)).1 (found (Ok true) h))

  says_different : RowsCompared b wk x y (Some (Ok false)) → RowsSay b n x y Different
  says_different h =
      let t = h.0.0 in
      let u = h.0.1 in
      let k = h.0.2 in
      let ft = fits x t k.left in
      let fu = fits y u k.right in
      let (v, w, hv, dv, hw, dw, differ) = found (Ok false) h in (
        t,
        u,
        k.left,
        k.right,
        λ e. differ (one_normal (told b) (sound_book_in b).reads.fine down settled t u v w ft fu
            hv dv hw dw ((settled.equal t u ft fu).0 e)),
      )

  says_full : (e : NoRoom) → RowsCompared b wk x y (Some (Err e)) → RowsSay b n x y Full
  says_full e h = at (found (Err e) h)
    where
      at : Compares b n h.0.0 h.0.1 (Err e) → RowsSay b n x y Full
      at (v, s, large) = (h.0.0, h.0.1, v, h.0.2.left, h.0.2.right, s, large)

  says_none : RowsCompared b wk x y None → RowsSay b n x y NoTerm
  says_none h t u ot ou = h (t, u, record { left = ot; right = ou })

  pub says_answer : (c : Maybe (Result Bool NoRoom)) → RowsCompared b wk x y c → (r : Answer) → r ≡ answer_of c → RowsSay b n x y r
  says_answer c h r e = subst (RowsSay b n x y) (sym e) (at c h)
    where
      at : (c : Maybe (Result Bool NoRoom)) → RowsCompared b wk x y c → RowsSay b n x y (answer_of c)
      at None h = says_none h
      at (Some (Ok true)) h = says_same h
      at (Some (Ok false)) h = says_different h
      at (Some (Err e)) h = says_full e h
