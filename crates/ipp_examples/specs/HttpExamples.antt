-- Fields of requests over HTTP, as clients and browsers send them.
use Prim.Native.String.{String}
use Rattle.std.specs.Prelude.{◌≡◌, Bool, true, false, List, [], ◌∷◌, map, codes, Some, None}
use Rattle.http_requests.specs.declared.route.Page.TheVariants.{Index, Printer, Icon, Metrics}
use Rattle.http_requests.specs.HttpRoutes.{is_ipp_type, is_own_host, page_of, printer_of}

-- A machine that is also called Printer.example.org.
abbrev pub own : List String → List Bool
own hosts = map (λ host. is_own_host (codes "Printer.example.org" ∷ []) (codes host)) hosts

-- libcups sends localhost:0 over a socket of the file system.
abbrev pub OwnHosts : Type 0
OwnHosts = own ("localhost" ∷ "localhost:631" ∷ "LocalHost:0" ∷ "127.0.0.1:8631" ∷ "[::1]" ∷ "[::1]:631" ∷ "printer.example.org" ∷ "PRINTER.EXAMPLE.ORG:631" ∷ "localhost:" ∷ [])
    ≡ true ∷ true ∷ true ∷ true ∷ true ∷ true ∷ true ∷ true ∷ true ∷ []

abbrev pub OtherHosts : Type 0
OtherHosts = own ("" ∷ "evil.example.com" ∷ "localhost.evil.example.com" ∷ "printer.example.org.evil.example.com" ∷ "localhost:63a" ∷ "::1" ∷ "127.0.0.10" ∷ "printer.example" ∷ "[::1" ∷ [])
    ≡ false ∷ false ∷ false ∷ false ∷ false ∷ false ∷ false ∷ false ∷ false ∷ []

abbrev pub TypeRows : Type 0
TypeRows = map (λ value. is_ipp_type (codes value)) ("application/ipp" ∷ "Application/IPP" ∷ "application/ipp; charset=utf-8" ∷ "application/ipp ;a=b" ∷ "" ∷ "text/plain" ∷ "application/x-www-form-urlencoded" ∷ "multipart/form-data; boundary=application/ipp" ∷ "application/ipps" ∷ [])
    ≡ true ∷ true ∷ true ∷ true ∷ false ∷ false ∷ false ∷ false ∷ false ∷ []

abbrev pub PageRows : Type 0
PageRows = map (λ target. page_of (codes target)) ("/" ∷ "/?a=b" ∷ "/printers" ∷ "/printers/" ∷ "/jobs/" ∷ "/printers/lab" ∷ "/printers/lab?x=/y" ∷ "/icon.png" ∷ "/metrics" ∷ [])
    ≡ Some Index ∷ Some Index ∷ Some Index ∷ Some Index ∷ Some Index ∷ Some Printer ∷ Some Printer ∷ Some Icon ∷ Some Metrics ∷ []

abbrev pub MissingPages : Type 0
MissingPages = map (λ target. page_of (codes target)) ("" ∷ "*" ∷ "http://localhost/" ∷ "/printers/lab.ppd" ∷ "/printers/a/b" ∷ "/jobs/5" ∷ "/admin/" ∷ "/.." ∷ [])
    ≡ None ∷ None ∷ None ∷ None ∷ None ∷ None ∷ None ∷ None ∷ []

abbrev pub NameRows : Type 0
NameRows = map (λ target. printer_of (codes target)) ("/printers/lab" ∷ "/printers/lab?x" ∷ "/printers/" ∷ "/" ∷ "" ∷ [])
    ≡ codes "lab" ∷ codes "lab" ∷ codes "" ∷ codes "" ∷ codes "" ∷ []
