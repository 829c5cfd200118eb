-- Lines with their canonical writings; a line that is refused has none.
use Prim.Native.String.{String}
use Rattle.std.specs.Prelude.{List, [], ◌∷◌}
use Rattle.std.proofs.Math.Option.{Option, none, some}

unfoldable pub writings : List (String × Option String)
writings =
    ("", some "")
    ∷ ("  show   -l all \\system1\\cpu*  Name ", some "show -level all /system1/cpu* Name")
    ∷ ("reset -f SESSION", some "reset -force SESSION")
    ∷ ("cd \\", some "cd /")
    ∷ ("show -keep 0 -o b=\"x y\",c=(1,\"2\"),d ../a1", some "show -keep 0 -output b=\"x y\",c=(1,2),d ../a1")
    ∷ ("load -source http:`/`/h` `\"x`\"` `a``", some "load -source http://h` `\"x`\"` ``a``")
    ∷ ("dump -destination `-x-y", some "dump -destination `-x-y")
    ∷ ("set Name=\"abc\" a=b", some "set Name=abc a=b")
    ∷ ("set Name=\"\" a==a` b", some "set Name=\"\" a==\"a b\"")
    ∷ ("set a=\"x`\"y\" b=x`\"``y c=\"`z\"", some "set a=\"x`\"y\" b=\"x`\"``y\" c=\"``z\"")
    ∷ ("set a=(b) b=(\"\",c,\"d e\",f`,g)", some "set a=(b) b=(\"\",c,\"d e\",\"f,g\")")
    ∷ ("help -h Name set", some "help -help Name set")
    ∷ ("SHOW -LEVEL aLL -D ALL,Name=(All,\"B\") /System1 Name", some "show -level all -display ALL,Name=(All,B) /System1 Name")
    ∷ ("HELP -H Show SET", some "help -help Show SET")
    ∷ ("Shows", none)
    ∷ []
