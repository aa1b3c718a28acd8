-- Known samples: words, choices and lines that the published generator and the recipe give,
-- computed apart from this program.
use Rattle.std.specs.Prelude.{◌≡◌, ℕ, ◌-◌, ◌^◌, List, [], ◌∷◌, ◌++◌, length, take, drop, codes}
use Rattle.rand_core.specs.Steps.{first_words}
use Rattle.rand_pcg.specs.Pcg.{pcg32}
use Rattle.luo_model.specs.declared.program.Universe.TheVariants.{Unlabelled, Labelled}
use Rattle.luo_sample.specs.Number.{seeded, word, behind, universe_of, choice_at, Sample}

-- the first words of some numbers
abbrev pub Words : Type 0
Words =
    (first_words pcg32 9 (seeded 1)
    ≡ 866585574 ∷ 2109535214 ∷ 3403630417 ∷ 296513984 ∷ 4177522235 ∷ 689909480 ∷ 3719081784
    ∷ 441867712 ∷ 3688506836 ∷ [])
    × (first_words pcg32 5 (seeded 0)
    ≡ 298703107 ∷ 4236525527 ∷ 336081875 ∷ 1056616254 ∷ 1060453275 ∷ [])
    × (first_words pcg32 5 (seeded 2)
    ≡ 663514024 ∷ 4050668357 ∷ 535747897 ∷ 1254972678 ∷ 1884811692 ∷ [])
    × (first_words pcg32 5 (seeded (2 ^ 64 - 1))
    ≡ 2553256318 ∷ 1362994822 ∷ 3759657484 ∷ 3366838333 ∷ 2323195082 ∷ [])

-- the universes of some numbers
abbrev pub Universes : Type 0
Universes =
    (universe_of (word (seeded 0)) ≡ Labelled)
    × (universe_of (word (seeded 1)) ≡ Unlabelled)
    × (universe_of (word (seeded 2)) ≡ Unlabelled)
    × (universe_of (word (seeded (2 ^ 64 - 1))) ≡ Unlabelled)

-- what number 1 chooses for definitions 0, 1 and 19
abbrev pub Choices : Type 0
Choices =
    (choice_at (behind (seeded 1)) 0 ≡ record { first = 14; second = 17; kind = 2; inner = 15 })
    × (choice_at (behind (seeded 1)) 1 ≡ record { first = 0; second = 4; kind = 1; inner = 16 })
    × (choice_at (behind (seeded 1)) 19 ≡ record { first = 13; second = 16; kind = 2; inner = 2 })

-- the text begins so
abbrev pub Begins : List ℕ → List ℕ → Type 0
Begins prefix text = take (length prefix) text ≡ prefix

-- the text ends so
abbrev pub Ends : List ℕ → List ℕ → Type 0
Ends back text = drop (length text - length back) text ≡ back

-- how the samples of 1 and 0 begin, one in each universe
abbrev pub FirstLines : Type 0
FirstLines =
    Begins
    (codes "unlabelled;\n"
    ++ codes "type z = atom(1);\n"
    ++ codes "type t0 = z | product(z, t14, t17) | product(z, powerset(t15));\n"
    ++ codes "type t1 = z | product(z, t0, t4) | product(z, multiset(t16));\n"
    ++ codes "type t2 = z | product(z, t16, t7) | product(z, powerset(t3));\n"
    ++ codes "type t3 = z | product(z, t10, t17) | product(z, multiset(t2));\n")
    (Sample 1)
    × Begins
    (codes "labelled;\n"
    ++ codes "type z = atom(1);\n"
    ++ codes "type t0 = z | product(z, t7, t15) | product(z, sequence(t15));\n"
    ++ codes "type t1 = z | product(z, t9, t10) | product(z, set(t12));\n")
    (Sample 0)

-- how that of 1 goes on after its definitions
abbrev pub MiddleLines : Type 0
MiddleLines =
    Begins
    (codes "measure unit : 1;\n"
    ++ codes "procedure p0(x : t0);\n"
    ++ codes "begin\n"
    ++ codes "  unit;\n"
    ++ codes "  case x of\n"
    ++ codes "    z : skip;\n"
    ++ codes "    (a, b, c) : begin\n"
    ++ codes "      p14(b);\n"
    ++ codes "      p17(c)\n"
    ++ codes "    end;\n"
    ++ codes "    (a, b) : begin\n"
    ++ codes "      forall u in b do p15(u)\n"
    ++ codes "    end\n"
    ++ codes "  end\n"
    ++ codes "end;\n"
    ++ codes "procedure p1(x : t1);\n")
    (drop 1295 (Sample 1))

-- how it ends, and its length
abbrev pub LastLines : Type 0
LastLines =
    (length (Sample 1) ≡ 5164)
    × Ends
    (codes "procedure p19(x : t19);\n"
    ++ codes "begin\n"
    ++ codes "  unit;\n"
    ++ codes "  case x of\n"
    ++ codes "    z : skip;\n"
    ++ codes "    (a, b, c) : begin\n"
    ++ codes "      p13(b);\n"
    ++ codes "      p16(c)\n"
    ++ codes "    end;\n"
    ++ codes "    (a, b) : begin\n"
    ++ codes "      forall u in b do p2(u)\n"
    ++ codes "    end\n"
    ++ codes "  end\n"
    ++ codes "end;\n"
    ++ codes "analyze p0;\n"
    ++ codes "analyze p1;\n"
    ++ codes "analyze p2;\n"
    ++ codes "analyze p3;\n"
    ++ codes "analyze p4;\n"
    ++ codes "analyze p5;\n"
    ++ codes "analyze p6;\n"
    ++ codes "analyze p7;\n")
    (Sample 1)
