pub mod RoundTrip
